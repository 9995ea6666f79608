-- What each return of a call on a runtime gives.
use Rattle.std.specs.Prelude.{Result, Err}
use mathlib.Core.Path.{◌≡◌, refl, sym, ap}
use mathlib.Core.Bool.{true, false}
use mathlib.Core.List.{List}
use Prim.Native.Nat.{ℕ, ◌*◌, ◌≤◌}
use native.Mathlib.Omega.{arith}
use lib.ListN.{length}
use Rattle.types.specs.declared.SimTime.{SimTime}
use Rattle.types.specs.Value.{ticks_of}
use Rattle.rules.specs.Base.{if◌then◌otherwise◌}
use Rattle.rules.specs.State as R
use Rattle.rules.specs.State.{State}
use Rattle.rules.specs.Answers as A
use Rattle.rules.specs.Rows.{Out, unless, out, refuse}
use Rattle.rules.specs.Foreign.{foreign}
use Rattle.rules.specs.Initial.{add_initial}
use Rattle.rules.specs.Begin.{begin}
use Rattle.rules.specs.Step.{step}
use Rattle.rules.specs.HandBack.{Emission, hand_back}
use Rattle.rules.specs.Calls.{Call, AddInitial, Begin, Step, HandBack, rule}
use Rattle.state.specs.declared.Header.{Header}
use Rattle.state.specs.declared.Runtime.{Runtime}
use Rattle.state.specs.declared.Counters.{Counters}
use Rattle.state.specs.declared.Message.{Message}
use Rattle.state.specs.declared.CoreResult.{CoreResult}
use Rattle.state.specs.declared.Answer.{Answer}
use Rattle.state.specs.declared.Refusal.{Refusal}
use Rattle.state.specs.declared.Refusal.TheVariants.{ForeignState}
use Rattle.state.specs.View.{view_of, counters_of, message_of, answer_of}
use Rattle.state.specs.ValidArrays.{ValidArrays}
use Rattle.state.specs.AsGiven.{as_given, SameAsGiven}
use Rattle.state.proofs.Numbering.{numbered, valued}
use Rattle.state.proofs.Facts.{few_edges, in_order, newest}
use Rattle.state.specs.declared.HeaderResult.{HeaderResult}
use Rattle.begin_run.specs.Begins.{Begins}
use Rattle.schedule_initial.specs.AddsInitial.{CanEnqueue, AddsInitial}
use Rattle.step.specs.Steps.{Steps}
use Rattle.hand_back_commit.specs.HandsBack.{HandsBack}
use Rattle.runtime.specs.Executes.{Executes}

-- Row 11 comes first in every call.
row_11 : (s : State) (c : R.Counters) (k : Call) → foreign s ≡ true → rule s c k ≡ refuse s c A.ForeignState
unfolding rule add_initial begin step hand_back unless if◌then◌otherwise◌
row_11 s c (AddInitial m) f = rw f
row_11 s c (Begin h b) f = rw f
row_11 s c Step f = rw f
row_11 s c (HandBack mask xs) f = rw f

-- Number and values follow from the whole answer.
pub executes : (k : Call) (s : Runtime) (c : Counters) (a : Result Answer Refusal) (t : Runtime) (d : Counters) → out (answer_of (view_of t).batch a) (view_of t) (counters_of d) ≡ rule (view_of s) (counters_of c) k
    → (as_given k (answer_of (view_of t).batch a) ≡ true → (t ≡ s) × (d ≡ c)) → Executes k s c a t d
executes k s c a t d g m =
    let e : answer_of (view_of t).batch a ≡ (rule (view_of s) (counters_of c) k).answer = ap (λ (o : Out). o.answer) g in
    record { gives = g; number_is = numbered (view_of t).batch a _ e; values_are = valued (view_of t).batch a _ e; kept = m }

pub carries_foreign : (s : Runtime) (c : Counters) (e : Refusal) → (e ≡ ForeignState) × (foreign (view_of s) ≡ true) → (k : Call) → Executes k s c (Err e) s c
carries_foreign s c e (w, f) k = rw w (executes k s c (Err ForeignState) s c (sym (row_11 (view_of s) (counters_of c) k f)) (λ _. (refl, refl)))

abbrev packed : List ℕ → List ℕ → List ℕ → List ℕ → Header → Runtime
packed E Q Z B h = record { edges = E; pending = Q; processes = Z; batch = B; head = h }

-- Where 11 lets the state pass.
module _ (s : Runtime) (passes : foreign (view_of s) ≡ false) where
  pub can_look : length s.edges ≡ 3072 → 6 * s.head.edges ≤ length s.edges
  can_look l = omega (arith, few_edges s.head s.edges s.pending s.processes s.batch passes)

  pub can_queue : length s.pending ≡ 4096 → CanEnqueue s.head s.pending
  can_queue l = record { pending_words = l; order = in_order s.head s.edges s.pending s.processes s.batch passes; newest = newest s.head s.edges s.pending s.processes s.batch passes }

  pub can_lend : length s.edges ≡ 3072 → length s.pending ≡ 4096 → length s.processes ≡ 256 → length s.batch ≡ 512 → ValidArrays s.head s.edges s.pending s.processes s.batch
  can_lend k l m n = record { edge_words = k; pending_words = l; process_words = m; batch_words = n; passes = passes }

  module _ (c : Counters) where
    pub carries_begin : (t : SimTime) (b : ℕ) (r : HeaderResult) → Begins s.head t b r → Executes (Begin (ticks_of t) b) s c r.answer (packed s.edges s.pending s.processes s.batch r.head) c
    unfolding rule as_given
    carries_begin t b r g =
        executes _ _ _ _ _ _
        (g.gives s.edges s.pending s.processes s.batch (counters_of c) passes)
        (λ k. ((λ j. packed s.edges s.pending s.processes s.batch (g.kept _ k j)), refl))

    pub carries_initial : (m : Message) (r : HeaderResult) (Q : List ℕ) → AddsInitial s.head s.edges s.pending m r Q → Executes (AddInitial (message_of m)) s c r.answer (packed s.edges Q s.processes s.batch r.head) c
    unfolding rule as_given
    carries_initial m r Q g =
        executes _ _ _ _ _ _
        (g.gives s.processes s.batch (counters_of c) passes)
        (λ k. ((λ j. packed s.edges ((g.kept _ k).1 j) s.processes s.batch ((g.kept _ k).0 j)), refl))

-- Of a call whose core is lent all four arrays.
module _ (s : Runtime) (c : Counters) (r : CoreResult) (Q Z B : List ℕ) where
  unchanged : (E : List ℕ) → SameAsGiven s.head c s.edges s.pending s.processes s.batch r E Q Z B → (packed E Q Z B r.head ≡ s) × (r.counters ≡ c)
  unchanged E m = ((λ j. packed (m.same_edges j) (m.same_pending j) (m.same_processes j) (m.same_batch j) (m.same_head j)), m.same_counters)

  pub carries_step : (E : List ℕ) → Steps s.head c s.edges s.pending s.processes s.batch r E Q Z B → Executes Step s c r.answer (packed E Q Z B r.head) r.counters
  unfolding rule as_given
  carries_step E g = executes _ _ _ _ _ _ g.gives (λ k. unchanged E (g.kept _ k))

  pub carries_back : (mask : ℕ) (xs : List Emission) → HandsBack s.head c s.edges s.pending s.processes s.batch mask xs r Q Z B → Executes (HandBack mask xs) s c r.answer (packed s.edges Q Z B r.head) r.counters
  unfolding rule as_given
  carries_back mask xs g = executes _ _ _ _ _ _ g.gives (λ k. unchanged s.edges (g.kept _ k))
