-- The emissions so far are checked.
use Rattle.std.specs.Prelude.{Result, Ok, Err}
use Rattle.std.specs.Result.{IsErrAnd}
use Rattle.std.proofs.lemmas.Result.{err_from_is_err_and}
use mathlib.Core.Path.{◌≡◌, sym, ap, subst, ◌∙◌}
use mathlib.Core.List.{List, [], ◌∷◌, ◌++◌, map-append}
use Prim.Native.Nat.{ℕ, ◌+◌, ◌≤◌, ◌<◌}
use lib.ListN.{length, get_or, take, drop}
use lib.Seq.{take_all}
use Rattle.std.proofs.lemmas.List.{take-append-drop}
use Rattle.records.specs.Records.{events_of}
use Rattle.reply_words.specs.declared.Emission.{Emission}
use Rattle.reply_words.specs.Emissions.{emission_of}
use Rattle.reply_words.specs.Replies.{malformed_emission}
use Rattle.hand_back_check.specs.declared.ReplyCheck.{ReplyCheck}
use Rattle.hand_back_check.specs.Checks.{ChecksNext, RefusesMalformed, CheckStarted, CheckedTo}
use Rattle.hand_back_check.proofs.Checking as Each
use Rattle.hand_back_check.proofs.Snoc.{ill_front}
use Rattle.state.specs.declared.Header.{Header}
use Rattle.state.specs.declared.Refusal.{Refusal}
use Rattle.host_hand_back.specs.Passes as P
use Rattle.host_hand_back.specs.Passes.{reply_of, places_in, processes_in, batch_in, look_of, Begun, Scanned}
use Rattle.host_reply.proofs.Turns.{none, one_more}

-- The first i of them.
abbrev pub Here : List ℕ → Header → ReplyCheck → List Emission → ℕ → ReplyCheck → Type 0
Here D h a ys i b = CheckedTo h (look_of D) (places_in D) (processes_in D) (batch_in D) a (reply_of (take i ys)) b

-- A reply that is refused before the first.
pub scanned_refused : (D : List ℕ) (h : Header) (s : Result ReplyCheck Refusal) (ys : List Emission) (x : Refusal) → s ≡ Err x → (r : Result ReplyCheck Refusal) → IsErrAnd r (λ y. y ≡ x) → Scanned D h s ys r
scanned_refused D h s ys x e r i = let p = err_from_is_err_and r i in rw e (p.1 ∙ ap Err p.2)

module _ (D : List ℕ) (h : Header) (s : Result ReplyCheck Refusal) (ys : List Emission) (a : ReplyCheck) (e : s ≡ Ok a) (b : Begun D h s) where
  starts : CheckStarted h (places_in D) (processes_in D) (batch_in D) a
  starts = rw e at b

  pub asks : P.Checkable D h
  asks = starts.checkable

  pub none_checked : Here D h a ys 0 a
  none_checked = Each.checked_start h (look_of D) (places_in D) (processes_in D) (batch_in D) a starts

  module _ (i : ℕ) (c : ReplyCheck) (t : Here D h a ys i c) (l : i < length ys) where
    abbrev y : Emission
    y = get_or ys i none

    more : reply_of (take i ys) ++ (emission_of y ∷ []) ≡ reply_of (take (i + 1) ys)
    more = sym (map-append emission_of (take i ys) (y ∷ [])) ∙ ap reply_of (one_more ys i l)

    pub checked_next : (r : ReplyCheck) → ChecksNext h (look_of D y.emitter.0 y.destination.0) (places_in D) (processes_in D) (batch_in D) c y r → Here D h a ys (i + 1) r
    checked_next r j = rw more at (Each.checked_more h (look_of D) (places_in D) (processes_in D) (batch_in D) a starts (reply_of (take i ys)) c t y r j)

    -- What is malformed so far makes the whole reply so.
    pub checked_ill : (x : Refusal) → RefusesMalformed (malformed_emission (events_of h.batch (batch_in D)) c.mask c.last (emission_of y)) x → (r : Result ReplyCheck Refusal) → IsErrAnd r (λ z. z ≡ x) → Scanned D h s ys r
    checked_ill x m r k =
        let p = err_from_is_err_and r k in
        let v = rw more at (Each.checked_ill h (look_of D) (places_in D) (processes_in D) (batch_in D) a starts (reply_of (take i ys)) c t y x m) in
        let w : reply_of (take (i + 1) ys) ++ reply_of (drop (i + 1) ys) ≡ reply_of ys = sym (map-append emission_of (take (i + 1) ys) (drop (i + 1) ys)) ∙ ap reply_of (take-append-drop (i + 1) ys) in
        rw (e, p.1, p.2) (record { malformed_holds = rw w at (ill_front (events_of h.batch (batch_in D)) a.mask 0 _ (reply_of (drop (i + 1) ys)) v.malformed_holds); refused = v.refused })

  pub checked_whole : (i : ℕ) (c : ReplyCheck) → Here D h a ys i c → length ys ≤ i → Scanned D h s ys (Ok c)
  checked_whole i c t l = rw e (subst (λ (zs : List Emission). CheckedTo h (look_of D) (places_in D) (processes_in D) (batch_in D) a (reply_of zs) c) (take_all i ys l) t)
