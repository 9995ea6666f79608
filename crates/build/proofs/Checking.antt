-- What each return of the checks answers.
use Rattle.std.specs.Prelude.{Option, Some, None, Ok, Err}
use mathlib.Core.Path.{◌≡◌, sym, ap, ◌∙◌}
use mathlib.Core.Bool.{Bool, true, false, not, ◌||◌}
use mathlib.Core.List.{List, []}
use mathlib.Core.Logic.{◌⊎◌, inl, inr}
use Prim.Native.Nat.{ℕ, ◌≤◌}
use native.Mathlib.Omega.{arith}
use lib.Dec.{ltb, eqb}
use lib.ListN.{take, drop}
use borrow.Author.Tests.{lt-ltb, le-ltb, ltb-false}
use Rattle.rules.specs.Base.{if◌then◌otherwise◌, Maybe, none, some, any, member, rising, up_to}
use Rattle.rules.specs.Answers as A
use Rattle.rules.specs.Rows.{Row, unless}
use Rattle.rules.specs.State.{Counters}
use Rattle.rules.specs.Build.{setup, missing, unexpected, malformed_rows, targets, topology_rows, build_rows, build}
use Rattle.rules.proofs.Tests.{by_bool, or_both, or_right, not_true, not_false}
use Rattle.rules.proofs.Table.{Passed}
use Rattle.rules.proofs.ProcessCount.{at_most_64}
use Rattle.types.specs.declared.LpId.{LpId}
use Rattle.build_ids.specs.declared.IdMismatch.{IdMismatch}
use Rattle.build_ids.specs.Checks.{RisingIds, checked_ids, missing_row_in, missing_row, missing_row_of}
use Rattle.build_topology.specs.declared.TopologyRefusal.{TopologyRefusal}
use Rattle.build_topology.specs.Lookaheads.{lookaheads_for, targets_for}
use Rattle.build_topology.specs.Checks.{RowsWellFormed, RowsPassed, refusal_of, first_refusal}
use Rattle.build_topology.proofs.Decided.{Checked}
use Rattle.build_topology.proofs.Sums.{fit_orderly, fit_fitting}
use Rattle.build.specs.declared.BuildRefusal.{BuildRefusal}
use Rattle.build.specs.declared.BuildRefusal.TheVariants as P
use Rattle.build.specs.Checks.{answer_of, answer_for, answer_of_rows, ChecksProcesses, ChecksTopology, ChecksBuild}
use Rattle.build.proofs.AnswerRows.{answer_decided, answer_built, answer_refused, answer_passed, answer_on}
use Rattle.build.proofs.Numbering.{Built, refusing}

-- 6 where a process has no row; else what is left answers.
abbrev without_row : Maybe ℕ → A.Answer → A.Answer
without_row (some p) rest = A.Refused (A.MissingTopologyEntry p)
without_row none rest = rest

-- The rows, each with those before it passed.
module _ (n L : ℕ) (ids sources counts ds ls : List ℕ) where
  abbrev rows : List Row
  rows = build_rows (setup n L ids sources counts ds ls)

  row_1 : eqb n 0 || ltb 64 n ≡ true → answer_of_rows (take 4 rows) ≡ A.Refused (A.InvalidPartitionCount n)
  unfolding answer_of_rows unless if◌then◌otherwise◌
  row_1 a = rw a

  module _ (a : eqb n 0 || ltb 64 n ≡ false) where
    row_2 : eqb L 0 ≡ true → answer_of_rows (take 4 rows) ≡ A.Refused A.InvalidLookahead
    unfolding answer_of_rows unless if◌then◌otherwise◌
    row_2 b = rw (a, b)

    module _ (b : eqb L 0 ≡ false) where
      row-3 : rising ltb ids ≡ false → answer_of_rows (take 4 rows) ≡ A.Refused A.UnorderedProcesses
      unfolding answer_of_rows unless if◌then◌otherwise◌
      row-3 d = rw (a, b, d)

      module _ (d : rising ltb ids ≡ true) where
        row-4 : ltb 0 (missing ids (up_to n)) || ltb 0 (unexpected n ids) ≡ true → answer_of_rows (take 4 rows) ≡ A.Refused (A.ProcessSetMismatch (missing ids (up_to n)) (unexpected n ids))
        unfolding answer_of_rows unless if◌then◌otherwise◌
        row-4 e = rw (a, b, d, e)

        after-4 : ltb 0 (missing ids (up_to n)) || ltb 0 (unexpected n ids) ≡ false → answer_of_rows (take 4 rows) ≡ A.Accepted
        unfolding answer_of_rows unless if◌then◌otherwise◌
        after-4 e = rw (a, b, d, e)

  row_5 : malformed_rows (setup n L ids sources counts ds ls) ≡ true → answer_of_rows (drop 4 rows) ≡ A.Refused A.MalformedTopology
  unfolding answer_of_rows unless if◌then◌otherwise◌
  row_5 m = rw m

  row_6 : malformed_rows (setup n L ids sources counts ds ls) ≡ false → answer_of_rows (drop 4 rows) ≡ without_row (missing_row n sources) (answer_of_rows (topology_rows n sources counts (targets ds ls)))
  unfolding answer_of_rows unless if◌then◌otherwise◌ missing_row missing_row_in
  row_6 m = by_bool (any (λ p. not (member p sources)) (up_to n)) (λ e. rw (m, e)) (λ e. rw (m, e))

pub orderly : (n : ℕ) (ids : List ℕ) (z u : Bool) → z ≡ (eqb n 0 || ltb 64 n) → z ≡ false → u ≡ rising ltb ids → u ≡ true → RisingIds n ids
orderly n ids z u w o v t = record { few = at_most_64 n (sym w ∙ o); rise = sym v ∙ t }

-- 1 to 4 from the program's tests, one after the other.
module _ (n L : ℕ) (ids : List ℕ) (z : Bool) (w : z ≡ (eqb n 0 || ltb 64 n)) where
  pub wrong_count : z ≡ true → ChecksProcesses n L ids (Err (P.InvalidPartitionCount n))
  wrong_count e = record { of_setup = λ ss cs ds ls. sym (row_1 n L ids ss cs ds ls (sym w ∙ e)) }

  module _ (s : z ≡ false) where
    a : eqb n 0 || ltb 64 n ≡ false
    a = sym w ∙ s

    pub no_lookahead : (x : Bool) → x ≡ eqb L 0 → x ≡ true → ChecksProcesses n L ids (Err P.InvalidLookahead)
    no_lookahead x y e = record { of_setup = λ ss cs ds ls. sym (row_2 n L ids ss cs ds ls a (sym y ∙ e)) }

    module _ (x : Bool) (y : x ≡ eqb L 0) (o : x ≡ false) (u : Bool) (v : u ≡ rising ltb ids) where
      d : eqb L 0 ≡ false
      d = sym y ∙ o

      pub unordered : u ≡ false → ChecksProcesses n L ids (Err P.UnorderedProcesses)
      unordered e = record { of_setup = λ ss cs ds ls. sym (row-3 n L ids ss cs ds ls a d (sym v ∙ e)) }

      module _ (t : u ≡ true) (f : IdMismatch) (g : f ≡ checked_ids n ids) where
        e : rising ltb ids ≡ true
        e = sym v ∙ t

        mismatch : ltb 0 f.missing || ltb 0 f.unexpected ≡ true → ChecksProcesses n L ids (Err (P.ProcessSetMismatch f.missing f.unexpected))
        unfolding checked_ids
        mismatch h = record { of_setup = λ ss cs ds ls. rw g (sym (row-4 n L ids ss cs ds ls a d e (rw g at h))) }

        pub some_missing : (f.missing ≡ 0 → ⊥) → ChecksProcesses n L ids (Err (P.ProcessSetMismatch f.missing f.unexpected))
        some_missing h = mismatch (rw (lt-ltb 0 f.missing (omega arith)))

        module _ (i : f.missing ≡ 0) where
          none_missing : ltb 0 f.missing ≡ false
          none_missing = le-ltb 0 f.missing (omega arith)

          pub some_unexpected : (f.unexpected ≡ 0 → ⊥) → ChecksProcesses n L ids (Err (P.ProcessSetMismatch f.missing f.unexpected))
          some_unexpected h = mismatch (rw none_missing (lt-ltb 0 f.unexpected (omega arith)))

          pub exactly : f.unexpected ≡ 0 → ChecksProcesses n L ids (Ok tt)
          unfolding checked_ids
          exactly h = record { of_setup = λ ss cs ds ls. sym (after-4 n L ids ss cs ds ls a d e (rw g at (or_both (ltb 0 f.missing) (ltb 0 f.unexpected) none_missing (le-ltb 0 f.unexpected (omega arith))))) }

        pub no_match : (f.missing ≡ 0) × (f.unexpected ≡ 0 → ⊥) ⊎ (f.missing ≡ 0 → ⊥) → ChecksProcesses n L ids (Err (P.ProcessSetMismatch f.missing f.unexpected))
        no_match (inl h) = some_unexpected h.0 h.1
        no_match (inr h) = some_missing h

-- 5 to 10 and 40.
module _ (n : ℕ) (sources counts ds ws : List ℕ) (x : Bool) (y : RowsWellFormed sources counts ds ws x) where
  pub malformed : x ≡ false → ChecksTopology n sources counts ds ws (Err P.MalformedTopology)
  malformed t = record { of_setup = λ L ids. sym (row_5 n L ids sources counts ds (lookaheads_for ds ws) (not_false _ (sym (y.of_setup n L ids) ∙ t))) }

  module _ (t : x ≡ true) where
    fit : RowsWellFormed sources counts ds ws true
    fit = rw t at y

    pub rows_orderly : n ≤ 64 → RisingIds n sources
    rows_orderly b = fit_orderly n sources counts ds ws b fit

    pub rows_fitting : n ≤ 64 → RowsPassed n sources counts ds ws
    rows_fitting b = fit_fitting n sources counts ds ws b fit

    abbrev left : Maybe ℕ → A.Answer
    left m = without_row m (answer_of_rows (topology_rows n sources counts (targets_for ds ws)))

    judged : (r : Built) → answer_of r ≡ left (missing_row n sources) → ChecksTopology n sources counts ds ws r
    judged r e = record { of_setup = λ L ids. e ∙ sym (row_6 n L ids sources counts ds (lookaheads_for ds ws) (not_true _ (sym (fit.of_setup n L ids)))) }

    module _ (w : Option LpId) (g : missing_row_of w ≡ missing_row n sources) where
      pub entry_missing : (p : LpId) → w ≡ Some p → ChecksTopology n sources counts ds ws (Err (P.MissingTopologyEntry p))
      entry_missing p e = judged _ (ap left (sym (ap missing_row_of e) ∙ g))

      -- Where each has its row, what the check of the rows answers is what build does.
      module _ (e : w ≡ None) (v : Checked) (h : refusal_of v ≡ first_refusal (topology_rows n sources counts (targets_for ds ws))) where
        pub rows_checked : (r : Built) → answer_of r ≡ answer_for (refusal_of v) → ChecksTopology n sources counts ds ws r
        rows_checked r k = judged r (k ∙ ap answer_for h ∙ answer_decided (topology_rows n sources counts (targets_for ds ws)) ∙ ap left (sym (ap missing_row_of e) ∙ g))

        pub rows_passed : v ≡ Ok tt → ChecksTopology n sources counts ds ws (Ok tt)
        rows_passed k = rows_checked _ (rw k)

        pub rows_refused : (fault : TopologyRefusal) (why : BuildRefusal) → v ≡ Err fault → answer_of (Err why) ≡ answer_for (refusal_of (Err fault)) → ChecksTopology n sources counts ds ws (Err why)
        rows_refused fault why k o = rows_checked _ (rw k o)

-- 1 to 10 and 40: the first part refuses, or it is passed and the second answers.
module _ (n L : ℕ) (ids : List ℕ) (r : Built) (j : ChecksProcesses n L ids r) where
  module _ (ss cs ds ws : List ℕ) where
    abbrev all : List Row
    all = rows n L ids ss cs ds (lookaheads_for ds ws)

    built_answer : (c : Counters) → (build (setup n L ids ss cs ds (lookaheads_for ds ws)) c).answer ≡ answer_of_rows all
    built_answer c = answer_built (setup n L ids ss cs ds (lookaheads_for ds ws)) c

    pub first_part : (why : BuildRefusal) → r ≡ Err why → ChecksBuild n L ids ss cs ds ws (Err why)
    first_part w f = record { of_counters = λ c. refusing r w f (λ why e. rw f at e ∙ sym (built_answer c ∙ answer_refused (take 4 all) (drop 4 all) why (sym (j.of_setup ss cs ds (lookaheads_for ds ws)) ∙ e))) }

  module _ (e : r ≡ Ok tt) where
    passed : (ss cs ds ls : List ℕ) → Passed (take 4 (rows n L ids ss cs ds ls))
    passed ss cs ds ls = answer_passed (take 4 (rows n L ids ss cs ds ls)) (sym (j.of_setup ss cs ds ls) ∙ ap answer_of e)

    pub few : n ≤ 64
    few = ltb-false 64 n (or_right (eqb n 0) (ltb 64 n) (passed [] [] [] []).0)

    pub second_part : (ss cs ds ws : List ℕ) (s : Built) → ChecksTopology n ss cs ds ws s → ChecksBuild n L ids ss cs ds ws s
    second_part ss cs ds ws s t = record { of_counters = λ c. t.of_setup L ids ∙ sym (built_answer ss cs ds ws c ∙ answer_on (take 4 (all ss cs ds ws)) (drop 4 (all ss cs ds ws)) (passed ss cs ds (lookaheads_for ds ws))) }
