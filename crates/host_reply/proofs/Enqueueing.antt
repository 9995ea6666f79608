-- What the emissions so far made of the pending words.
use Rattle.std.specs.Prelude.{Result, Ok, Err}
use Rattle.std.specs.Result.{IsErrAnd}
use Rattle.std.proofs.lemmas.Result.{err_from_is_err_and}
use mathlib.Core.Path.{◌≡◌, refl, sym, ap, subst, ◌∙◌}
use mathlib.Core.List.{List, [], ◌∷◌, ◌++◌, map-append}
use Prim.Native.Nat.{ℕ, ◌+◌, ◌≤◌, ◌<◌}
use native.Mathlib.Omega.{arith}
use lib.ListN.{length, get_or, take, length-map}
use lib.Seq.{length-take-le, take_all}
use Rattle.reply_words.specs.declared.Emission.{Emission}
use Rattle.reply_words.specs.Emissions.{emission_of}
use Rattle.hand_back_enqueue.specs.declared.Tail.{Tail}
use Rattle.hand_back_enqueue.specs.Enqueued.{Enqueueable, Enqueues, Enqueued}
use Rattle.hand_back_enqueue.proofs.Enqueueing.{enqueued_none, enqueued_asks, enqueued_more}
use Rattle.state.specs.declared.Refusal.{Refusal}
use Rattle.host_hand_back.specs.Passes.{reply_of, Admitted, Queued}
use Rattle.host_reply.proofs.Turns.{none, one_more}

-- The first i of them.
abbrev pub Here : List ℕ → Tail → List Emission → ℕ → List ℕ → Tail → Type 0
Here w t ys i u v = Enqueued t (reply_of (take i ys)) w v u

-- A round that is not admitted.
pub queued_refused : (w : List ℕ) (p : Result Tail Refusal) (ys : List Emission) (x : Refusal) → p ≡ Err x → (r : Result Tail Refusal) → IsErrAnd r (λ y. y ≡ x) → Queued w p ys w r
queued_refused w p ys x e r i = let q = err_from_is_err_and r i in rw e (q.1 ∙ ap Err q.2, refl)

module _ (w : List ℕ) (p : Result Tail Refusal) (ys : List Emission) (t : Tail) (e : p ≡ Ok t) where
  pub none_queued : Here w t ys 0 w t
  none_queued = enqueued_none t w

  module _ (i : ℕ) (u : List ℕ) (v : Tail) (f : Here w t ys i u v) where
    pub ready_at : Admitted w p ys → i < length ys → Enqueueable v 1 u
    ready_at a l =
        let b : Enqueueable t (length ys) w = rw e at a in
        let n : length (reply_of (take i ys)) ≡ i = length-map (take i ys) emission_of ∙ length-take-le i ys (omega arith) in
        enqueued_asks t w (reply_of (take i ys)) v u f (length ys) b (rw n l)

    pub queued_next : i < length ys → (z : Tail) (x : List ℕ) → Enqueues v (emission_of (get_or ys i none)) u z x → Here w t ys (i + 1) x z
    queued_next l z x g =
        let more : reply_of (take i ys) ++ (emission_of (get_or ys i none) ∷ []) ≡ reply_of (take (i + 1) ys) = sym (map-append emission_of (take i ys) (get_or ys i none ∷ [])) ∙ ap reply_of (one_more ys i l) in
        rw more at (enqueued_more t w (reply_of (take i ys)) v u f (emission_of (get_or ys i none)) z x g)

    pub queued_whole : length ys ≤ i → Queued w p ys u (Ok v)
    queued_whole l = rw e (subst (λ (zs : List Emission). Enqueued t (reply_of zs) w v u) (take_all i ys l) f)
