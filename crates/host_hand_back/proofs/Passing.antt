-- What each return of a step of the second pass gives.
use Rattle.std.specs.Prelude.{Result, Ok, Err, IfOk}
use Rattle.std.specs.Result.{IsErrAnd}
use Rattle.std.proofs.lemmas.Result.{err_from_is_err_and}
use mathlib.Core.Path.{◌≡◌, refl, ap, ◌∙◌}
use mathlib.Core.List.{List}
use Prim.Native.Nat.{ℕ}
use Rattle.reply_words.specs.declared.Emission.{Emission}
use Rattle.reply_words.specs.Emissions.{emission_of}
use Rattle.hand_back_enqueue.specs.declared.Tail.{Tail}
use Rattle.hand_back_enqueue.specs.Enqueued.{Enqueueable, Enqueues}
use Rattle.state.specs.declared.Refusal.{Refusal}
use Rattle.host_hand_back.specs.Passes.{EnqueuesNext}

module _ (w : List ℕ) (p : Result Tail Refusal) (e : Emission) where
  -- A round that is not admitted.
  pub not_enqueued : (x : Refusal) → p ≡ Err x → (r : Result Tail Refusal) → IsErrAnd r (λ y. y ≡ x) → EnqueuesNext w p e w r
  not_enqueued x i r j = let q = err_from_is_err_and r j in rw i (q.1 ∙ ap Err q.2, refl)

  module _ (t : Tail) (i : p ≡ Ok t) where
    pub enqueue_asks : IfOk p (λ z. Enqueueable z 1 w) → Enqueueable t 1 w
    enqueue_asks a = rw i at a

    pub enqueued_next : (v : Tail) (u : List ℕ) → Enqueues t (emission_of e) w v u → EnqueuesNext w p e u (Ok v)
    enqueued_next v u d = rw i d
