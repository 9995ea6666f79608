-- A.3: bounds written one by one into the state are those that rise all at once.
use mathlib.Core.Path.{◌≡◌, refl, sym, ap, ◌∙◌}
use mathlib.Core.Bool.{Bool, true, false}
use mathlib.Core.List.{List, [], ◌∷◌, ◌++◌}
use Prim.Native.Nat.{ℕ, suc, ◌+◌, ◌≤◌, ◌<◌, max}
use native.Mathlib.Omega.{arith}
use lib.Dec.{ltb}
use lib.ListN.{length}
use borrow.Author.Tests.{ltb-true, ltb-false, lt-ltb, le-ltb}
use Rattle.rules.specs.Base.{if◌then◌otherwise◌, some, up_from, up_to}
use Rattle.rules.specs.State.{Edge, with_bound, State, Counters, zeros}
use Rattle.rules.specs.Rows.{Out}
use Rattle.rules.specs.Foreign.{foreign}
use Rattle.rules.specs.Refresh.{refreshed}
use Rattle.rules.specs.Step.{input_frontier, new_bound, raised_edges, count_raised, new_edges, null_messages_of, any_advanced, Progress, answer_advance, advanced_at_once, advance}
use Rattle.rules.specs.InPlace.{nth_edge, set_bound, with_edges, Raising, raise_bound, raise_bound_at, raise_each, raise_bounds, progress_from, advanced_in_place, advance_in_place, advance_reading_anew, InPlaceProved}
use Rattle.rules.specs.Slips.{chain_run, bounds_left}
use Rattle.rules.specs.Opened.{all_rules}
use Rattle.rules.proofs.Tests.{by_test}

-- The edge behind those that are written.
nth_behind : (done : List Edge) (e : Edge) (es : List Edge) → nth_edge (done ++ (e ∷ es)) (length done) ≡ some e
unfolding nth_edge
nth_behind [] e es = refl
nth_behind (d ∷ ds) e es = nth_behind ds e es

set_behind : (done : List Edge) (e : Edge) (es : List Edge) (b : ℕ) → set_bound (done ++ (e ∷ es)) (length done) b ≡ done ++ (with_bound e b ∷ es)
unfolding set_bound
set_behind [] e es b = refl
set_behind (d ∷ ds) e es b = ap (λ (l : List Edge). d ∷ l) (set_behind ds e es b)

one_more : (done : List Edge) (e : Edge) (es : List Edge) → done ++ (e ∷ es) ≡ (done ++ (e ∷ [])) ++ es
one_more [] e es = refl
one_more (d ∷ ds) e es = ap (λ (l : List Edge). d ∷ l) (one_more ds e es)

longer : (done : List Edge) (e : Edge) → length (done ++ (e ∷ [])) ≡ suc (length done)
longer [] e = refl
longer (d ∷ ds) e = ap suc (longer ds e)

-- The edges of the state s: those of `done` are written, and the others as they were.
abbrev reached : State → List Edge → List Edge → ℕ → Raising
reached s done es k = record { now = with_edges s (done ++ es); raised = k }

-- What a bound rises to is found by the record, whatever is written.
bound_found : (s : State) (es : List Edge) (H : ℕ) (e : Edge) → new_bound (with_edges s es) H e ≡ new_bound s H e
unfolding new_bound input_frontier
bound_found s es H e = refl

abbrev lifted : State → ℕ → Edge → Edge
lifted s H e = with_bound e (max e.bound (new_bound s H e))

abbrev rise : State → ℕ → Edge → ℕ
rise s H e = if ltb e.bound (lifted s H e).bound then 1 otherwise 0

one_if_holds : (k : ℕ) (t : Bool) → t ≡ true → suc k ≡ k + (if t then 1 otherwise 0)
unfolding if◌then◌otherwise◌
one_if_holds k t e = rw e (omega arith)

none_if : (k : ℕ) (t : Bool) → t ≡ false → k ≡ k + (if t then 1 otherwise 0)
unfolding if◌then◌otherwise◌
none_if k t e = rw e (omega arith)

-- One edge: its bound is written, or stays.
module _ (s : State) (H : ℕ) (done : List Edge) (e : Edge) (es : List Edge) (k : ℕ) where
  abbrev b : ℕ
  b = new_bound s H e

  rises : ltb e.bound b ≡ true → reached s done (with_bound e b ∷ es) (suc k) ≡ reached s done (lifted s H e ∷ es) (k + rise s H e)
  rises t =
      let h : e.bound < b = ltb-true e.bound b t in
      let to : b ≡ max e.bound b = omega arith in
      let up : suc k ≡ k + rise s H e = one_if_holds k _ (lt-ltb e.bound (max e.bound b) (omega arith)) in
      λ j. reached s done (with_bound e (to j) ∷ es) (up j)

  stays : ltb e.bound b ≡ false → reached s done (e ∷ es) k ≡ reached s done (lifted s H e ∷ es) (k + rise s H e)
  stays t =
      let h : b ≤ e.bound = ltb-false e.bound b t in
      let to : e.bound ≡ max e.bound b = omega arith in
      let up : k ≡ k + rise s H e = none_if k _ (le-ltb e.bound (max e.bound b) (omega arith)) in
      λ j. reached s done (with_bound e (to j) ∷ es) (up j)

raised_one : (s : State) (H : ℕ) (done : List Edge) (e : Edge) (es : List Edge) (k : ℕ) → raise_bound_at H (reached s done (e ∷ es) k) (length done) ≡ reached s done (lifted s H e ∷ es) (k + rise s H e)
unfolding raise_bound_at raise_bound
raised_one s H done e es k =
    rw (nth_behind done e es, set_behind done e es (new_bound (with_edges s (done ++ (e ∷ es))) H e), bound_found s (done ++ (e ∷ es)) H e)
    (by_test (λ (r : Raising). r ≡ reached s done (lifted s H e ∷ es) (k + rise s H e)) (rises s H done e es k) (stays s H done e es k))

-- All that are left.
raised_each : (s : State) (H : ℕ) (done es : List Edge) (k : ℕ) → raise_each H (reached s done es k) (up_from (length done) (length es)) ≡ reached s done (raised_edges s H es) (k + count_raised es (raised_edges s H es))
unfolding raise_each up_from raised_edges count_raised
raised_each s H done [] k = let z : k ≡ k + 0 = omega arith in ap (reached s done []) z
raised_each s H done (e ∷ es) k =
    let d = done ++ (lifted s H e ∷ []) in
    let n : k + rise s H e + count_raised es (raised_edges s H es) ≡ k + (rise s H e + count_raised es (raised_edges s H es)) = omega arith in
    ap (λ (r : Raising). raise_each H r (up_from (suc (length done)) (length es))) (raised_one s H done e es k ∙ ap (λ (l : List Edge). record { now = with_edges s l; raised = k + rise s H e }) (one_more done (lifted s H e) es))
    ∙ ap (λ (i : ℕ). raise_each H (reached s d es (k + rise s H e)) (up_from i (length es))) (sym (longer done (lifted s H e)))
    ∙ raised_each s H d es (k + rise s H e)
    ∙ (λ j. record { now = with_edges s (sym (one_more done (lifted s H e) (raised_edges s H es)) j); raised = n j })

-- For the code too: what is left of the state, and how many bounds rose.
pub raised_at_once : (s : State) (H : ℕ) → raise_bounds s H ≡ record { now = with_edges s (new_edges s H); raised = null_messages_of s H }
unfolding raise_bounds up_to
raised_at_once s H =
    let z : 0 + null_messages_of s H ≡ null_messages_of s H = omega arith in
    raised_each s H [] s.edges 0 ∙ ap (reached s [] (new_edges s H)) z

-- The rest of the advance reads nothing else.
rest_alike : (s : State) (horizon : ℕ) → progress_from (record { now = with_edges s (new_edges s (suc horizon)); raised = null_messages_of s (suc horizon) }) horizon ≡ advanced_at_once s horizon
unfolding progress_from refreshed input_frontier any_advanced
rest_alike s horizon = refl

pub progress_at_once : (s : State) (horizon : ℕ) → advanced_in_place s horizon ≡ advanced_at_once s horizon
progress_at_once s horizon = ap (λ (r : Raising). progress_from r horizon) (raised_at_once s (suc horizon)) ∙ rest_alike s horizon

same : (s : State) (c : Counters) (horizon : ℕ) → advance_in_place s c horizon ≡ advance s c horizon
unfolding advance_in_place advance
same s c horizon = ap (λ (a : Progress). answer_advance a c horizon) (progress_at_once s horizon)

-- Frontiers read anew: of the chain 0→1→2, the second bound would be 10 and not 6.
second_of : List ℕ → ℕ
second_of [] = 0
second_of (x ∷ []) = 0
second_of (x ∷ y ∷ ys) = y

chain_passes : foreign chain_run ≡ false
unfolding all_rules
chain_passes = refl

anew : advance_reading_anew chain_run zeros 9 ≡ advance chain_run zeros 9 → ◌≡◌ {A = ℕ} 10 6
unfolding all_rules second_of
anew e = ap (λ (o : Out). second_of (bounds_left o)) e

pub in_place : InPlaceProved
in_place = record { same = same; not_read_anew = λ f. absurd (omega (arith, anew (f chain_run zeros 9 chain_passes))) }
