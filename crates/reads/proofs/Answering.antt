-- What each return of a read gives.
use Rattle.std.specs.Prelude.{Result, Ok, Err}
use Rattle.std.specs.Result.{IsErrAnd}
use Rattle.std.proofs.lemmas.Result.{err_from_is_err_and}
use mathlib.Core.Path.{◌≡◌, refl, sym, ap, ◌∙◌}
use mathlib.Core.Bool.{true, false}
use Prim.Native.Nat.{ℕ, ◌*◌, ◌≤◌}
use native.Mathlib.Omega.{arith}
use lib.ListN.{length}
use Rattle.types.specs.declared.SimTime.{SimTime}
use Rattle.types.specs.Value.{ticks_of}
use Rattle.words.proofs.Tab.{length_tab}
use Rattle.records.specs.Records.{event_at, events_of}
use Rattle.records.specs.Queue.{event_ticks}
use Rattle.rules.specs.Base.{if◌then◌otherwise◌}
use Rattle.rules.specs.State as R
use Rattle.rules.specs.State.{State, max_tick}
use Rattle.rules.specs.Answers as A
use Rattle.rules.specs.Rows.{unless, Out, out, refuse}
use Rattle.rules.specs.Foreign.{foreign}
use Rattle.rules.specs.Refresh.{least}
use Rattle.rules.specs.Reads.{read, read_gvt, read_counters, read_pending, read_earliest}
use Rattle.state.specs.declared.Runtime.{Runtime}
use Rattle.state.specs.declared.Counters.{Counters}
use Rattle.state.specs.declared.Refusal.{Refusal}
use Rattle.state.specs.declared.Refusal.TheVariants.{ForeignState}
use Rattle.state.specs.View.{view_of, counters_of}
use Rattle.state.proofs.Facts.{few_pending}
use Rattle.reads.specs.declared.Reading.{Reading}
use Rattle.reads.specs.declared.Reading.TheVariants as P
use Rattle.reads.specs.Reads.{Reads, read_of}
use Rattle.reads.proofs.Numbering.{numbered}

read_11 : (s : State) (c : R.Counters) (a : A.Reading) → foreign s ≡ true → refuse s c A.ForeignState ≡ read s c a
unfolding read unless if◌then◌otherwise◌
read_11 s c a f = rw f

read_passed : (s : State) (c : R.Counters) (a : A.Reading) → foreign s ≡ false → out (A.Read a) s c ≡ read s c a
unfolding read unless if◌then◌otherwise◌
read_passed s c a f = rw f

-- The rule of a read, where 11 lets the state pass, reads a.
abbrev pub Of : (State → R.Counters → Out) → Runtime → Counters → A.Reading → Type 0
Of rule s c a = read (view_of s) (counters_of c) a ≡ rule (view_of s) (counters_of c)

module _ (s : Runtime) (c : Counters) where
  pub of_gvt : Of read_gvt s c (A.Gvt (ticks_of s.head.gvt))
  unfolding read_gvt
  of_gvt = refl

  pub of_counters : Of read_counters s c (A.Counted (counters_of c) s.head.used)
  unfolding read_counters
  of_counters = refl

  pub of_pending : Of read_pending s c (A.Pending s.head.pending)
  unfolding read_pending
  of_pending = ap (λ (k : ℕ). read (view_of s) (counters_of c) (A.Pending k)) (sym (length_tab (event_at s.pending) 0 s.head.pending))

  pub of_earliest : Of read_earliest s c (A.Earliest (least max_tick (event_ticks (events_of s.head.pending s.pending))))
  unfolding read_earliest
  of_earliest = refl

  module _ (rule : State → R.Counters → Out) (a : A.Reading) (i : Of rule s c a) where
    pub refused : (why : Refusal) → (why ≡ ForeignState) × (foreign (view_of s) ≡ true) → (r : Result Reading Refusal) → IsErrAnd r (λ e. e ≡ why) → Reads rule s c r
    refused why w r e =
        let p = err_from_is_err_and r e in
        rw (p.1, p.2, w.0) (numbered rule s c (Err ForeignState) (read_11 (view_of s) (counters_of c) a w.1 ∙ i))

    pub passed : foreign (view_of s) ≡ false → (r : Reading) → read_of (Ok r) ≡ A.Read a → Reads rule s c (Ok r)
    passed f r e = numbered rule s c (Ok r) (ap (λ (b : A.Answer). out b (view_of s) (counters_of c)) e ∙ read_passed (view_of s) (counters_of c) a f ∙ i)

-- The earliest pending tick, beginning with the largest of all.
pub earliest_is : (s : Runtime) (t cap : SimTime) → ticks_of t ≡ least (ticks_of cap) (event_ticks (events_of s.head.pending s.pending)) → ticks_of cap ≡ max_tick
    → read_of (Ok (P.Earliest t)) ≡ A.Read (A.Earliest (least max_tick (event_ticks (events_of s.head.pending s.pending))))
earliest_is s t cap q k = ap (λ (m : ℕ). A.Read (A.Earliest m)) (q ∙ ap (λ (m : ℕ). least m (event_ticks (events_of s.head.pending s.pending))) k)

-- Its pass over the pending events stays inside them.
pub can_pass : (s : Runtime) → foreign (view_of s) ≡ false → length s.pending ≡ 4096 → 8 * s.head.pending ≤ length s.pending
can_pass s passes l = omega (arith, few_pending s.head s.edges s.pending s.processes s.batch passes)
