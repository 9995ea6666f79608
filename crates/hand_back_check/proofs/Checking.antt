-- A reply is checked from its first emission to its last.
use mathlib.Core.Path.{◌≡◌, refl, sym, ap, ◌∙◌}
use mathlib.Core.Bool.{false}
use mathlib.Core.List.{List, [], ◌∷◌, ◌++◌}
use Rattle.std.specs.Prelude.{Result, Err}
use Rattle.std.specs.Result.{IsErrAnd}
use Rattle.std.proofs.lemmas.Result.{err_from_is_err_and}
use Prim.Native.Nat.{ℕ, ◌+◌, ◌-◌, ◌*◌, ◌<◌}
use native.Mathlib.Omega.{arith}
use Rattle.types.specs.declared.SimDuration.{SimDuration}
use Rattle.types.specs.Value.{duration_of, lp_id_of}
use Rattle.words.specs.Words.{tab}
use Rattle.words.proofs.Tab.{tab_push, tab_split}
use Rattle.rules.specs.Base.{any, count}
use Rattle.rules.specs.State.{Event}
use Rattle.rules.specs.Pending.{lookahead_along}
use Rattle.rules.specs.Foreign.{without_lookahead}
use Rattle.rules.specs.HandBack as Rule
use Rattle.records.specs.Records.{edges_of, events_of}
use Rattle.hand_back_edges.specs.Looks.{Looks}
use Rattle.reply_words.specs.declared.Emission.{Emission}
use Rattle.reply_words.specs.Emissions.{emission_of, emission_in, emission_at, emissions_of}
use Rattle.reply_words.specs.Replies.{malformed_emission, any_malformed_emission}
use Rattle.hand_back_emission.specs.Checks.{ChecksRows}
use Rattle.hand_back_emission.proofs.Checks.{nothing}
use Rattle.state.specs.declared.Header.{Header}
use Rattle.state.specs.declared.Refusal.{Refusal}
use Rattle.state.specs.View.{view}
use Rattle.hand_back_check.specs.declared.ReplyCheck.{ReplyCheck}
use Rattle.hand_back_check.specs.EmissionRows.{last_of, rows_up_to}
use Rattle.hand_back_check.specs.Checks.{NextResult, ChecksNext, RefusesMalformed, CheckStarted, CheckedTo, CheckedFrom}
use Rattle.hand_back_check.proofs.Next.{seated}
use Rattle.hand_back_check.proofs.Snoc.{last_snoc, ill_snoc, ill_front, remote_snoc, rows_snoc}

module _ (h : Header) (look : ℕ → ℕ → ℕ) (T Z B : List ℕ) (a : ReplyCheck) (d : CheckStarted h T Z B a) where
  abbrev q : List Event
  q = events_of h.batch B

  pub checked_start : CheckedTo h look T Z B a [] a
  unfolding last_of count rows_up_to any_malformed_emission
  checked_start = record {
    same_mask = refl;
    same_failed = refl;
    not_malformed = refl;
    last = ap (λ (x : ReplyCheck). x.last) d.started;
    remote = ap (λ (x : ReplyCheck). x.remote) d.started;
    outcome_is = λ X Q W f w. rw (ap (λ (x : ReplyCheck). x.outcome) d.started) nothing;
  }

  -- One emission more.
  module _ (xs : List Rule.Emission) (b : ReplyCheck) (t : CheckedTo h look T Z B a xs b) (e : Emission) where
    abbrev x : Rule.Emission
    x = emission_of e

    ill_more : any_malformed_emission q a.mask 0 (xs ++ (x ∷ [])) ≡ malformed_emission q b.mask b.last x
    ill_more = rw (ill_snoc q a.mask 0 xs x, t.not_malformed, ← t.last, ← t.same_mask)

    pub checked_ill : (y : Refusal) → RefusesMalformed (malformed_emission q b.mask b.last x) y → RefusesMalformed (any_malformed_emission q a.mask 0 (xs ++ (x ∷ []))) y
    checked_ill y m = record { malformed_holds = ill_more ∙ m.malformed_holds; refused = m.refused }

    module _ (r : ReplyCheck) (j : ChecksNext h (look (lp_id_of e.emitter) (lp_id_of e.destination)) T Z B b e r) where
      -- The lookahead that it was checked with is that of its edge.
      led : (X : List ℕ) → Looks (edges_of h.edges X) T look → look (lp_id_of e.emitter) (lp_id_of e.destination) ≡ lookahead_along (edges_of h.edges X) (lp_id_of e.emitter) (lp_id_of e.destination)
      unfolding Looks
      led X w = w _ _ (seated q T b.mask b.last x d.checkable.places j.not_malformed)

      outcome-more : (X Q W : List ℕ) → any without_lookahead (edges_of h.edges X) ≡ false → Looks (edges_of h.edges X) T look → ChecksRows (rows_up_to (view h X Q Z W) q a.failed (xs ++ (x ∷ []))) r.outcome
      unfolding NextResult
      outcome-more X Q W f w =
          rw (rows_snoc (view h X Q Z W) q a.failed xs x)
          (rw t.same_failed at (j.outcome_is X Q W f (led X w) (rows_up_to (view h X Q Z W) q a.failed xs) (t.outcome_is X Q W f w)))

      pub checked_more : CheckedTo h look T Z B a (xs ++ (x ∷ [])) r
      checked_more = record {
        same_mask = j.same_mask ∙ t.same_mask;
        same_failed = j.same_failed ∙ t.same_failed;
        not_malformed = ill_more ∙ j.not_malformed;
        last = j.last ∙ sym (last_snoc 0 xs x);
        remote = j.remote ∙ rw t.remote (sym (remote_snoc xs x));
        outcome_is = outcome-more;
      }

-- A check that has stopped before the first emission.
pub checking_stopped : (h : Header) (look : ℕ → ℕ → ℕ) (T Z B : List ℕ) (s : Result ReplyCheck Refusal) (xs : List Rule.Emission) (x : Refusal) → s ≡ Err x → (r : Result ReplyCheck Refusal) → IsErrAnd r (λ y. y ≡ x) → CheckedFrom h look T Z B s xs r
checking_stopped h look T Z B s xs x e r i = let p = err_from_is_err_and r i in rw e (p.1 ∙ ap Err p.2)

-- The first i emissions of a reply in words are checked.
module _ (h : Header) (look : ℕ → ℕ → ℕ) (T Z B : List ℕ) (a : ReplyCheck) (w : List ℕ) (d : CheckStarted h T Z B a) where
  pub checking_start : CheckedTo h look T Z B a (emissions_of 0 w) a
  unfolding tab
  checking_start = checked_start h look T Z B a d

  module _ (i : ℕ) (b : ReplyCheck) (t : CheckedTo h look T Z B a (emissions_of i w) b) (e : Emission) (y : emission_of e ≡ emission_in w (8 * i)) (l : SimDuration) (k : duration_of l ≡ look (lp_id_of e.emitter) (lp_id_of e.destination)) where
    push : emissions_of i w ++ (emission_of e ∷ []) ≡ emissions_of (i + 1) w
    unfolding emission_at
    push = rw y (sym (tab_push (emission_at w) i))

    pub checking_more : (r : ReplyCheck) → ChecksNext h (duration_of l) T Z B b e r → CheckedTo h look T Z B a (emissions_of (i + 1) w) r
    checking_more r s = rw push at (checked_more h look T Z B a d (emissions_of i w) b t e r (rw k at s))

    pub checking_ill : (n : ℕ) → i < n → (x : Refusal) → RefusesMalformed (malformed_emission (events_of h.batch B) b.mask b.last (emission_of e)) x → RefusesMalformed (any_malformed_emission (events_of h.batch B) a.mask 0 (emissions_of n w)) x
    checking_ill n m x s =
        let c = rw push at (checked_ill h look T Z B a d (emissions_of i w) b t e x s) in
        let v : n ≡ (i + 1) + (n - (i + 1)) = omega arith in
        record { malformed_holds = rw (v, tab_split (emission_at w) 0 (i + 1) (n - (i + 1))) (ill_front (events_of h.batch B) a.mask 0 _ _ c.malformed_holds); refused = c.refused }
