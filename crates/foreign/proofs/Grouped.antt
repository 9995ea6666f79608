-- The clauses of 11, in the order of the rules and in the program's.
use mathlib.Core.Path.{◌≡◌, refl, sym, ◌∙◌}
use mathlib.Core.Bool.{Bool, false, not, ◌||◌, or_assoc, or_comm, or-false}
use mathlib.Core.List.{List, [], ◌∷◌}
use Prim.Native.Nat.{ℕ, zero, suc}
use native.Mathlib.Omega.{arith}
use lib.Dec.{ltb, eqb}
use lib.ListN.{length}
use borrow.Author.Tests.{eq-eqb, lt-ltb}
use Rattle.words.specs.Words.{tab, tick_of, horizons_of, inbound_at, inbounds_of}
use Rattle.words.proofs.Tab.{length_tab}
use Rattle.records.specs.Records.{edge_at, event_at, edges_of, events_of}
use Rattle.rules.specs.Base.{any, any_of, non_empty}
use Rattle.rules.specs.Foreign.{over_limit, unknown_id, wrong_record, foreign}
use Rattle.rules.proofs.Tests.{not_of_true}
use Rattle.state.specs.declared.Header.{Header}
use Rattle.state.specs.declared.Runtime.{Runtime}
use Rattle.state.specs.View.{view_of}
use Rattle.foreign.specs.Tests.{header_tests, edge_tests, pending_tests, batch_tests, IsForeign}

or_swap : (a b c : Bool) → a || (b || c) ≡ b || (a || c)
or_swap a b c = sym (or_assoc a b c) ∙ rw (or_comm a b) (or_assoc b a c)

-- The program's order, and that of the rules.
regrouped : (no_process many-processes no_lookahead many-edges many-pending many-batch top-horizon no_horizon no_run strange-edge no-edge-lookahead bad-edge wrong_record_holds strange-pending long-pending order-pending late-pending strange-batch long-batch order-batch : Bool)
    → any_of (
    any_of (any_of (no_process ∷ many-processes ∷ no_lookahead ∷ []) ∷ any_of (many-edges ∷ many-pending ∷ many-batch ∷ []) ∷ any_of (top-horizon ∷ no_horizon ∷ no_run ∷ []) ∷ [])
    ∷ any_of (strange-edge ∷ no-edge-lookahead ∷ bad-edge ∷ wrong_record_holds ∷ [])
    ∷ any_of ((strange-pending || long-pending) ∷ order-pending ∷ late-pending ∷ [])
    ∷ any_of ((strange-batch || long-batch) ∷ order-batch ∷ [])
    ∷ [])
    ≡ any_of (
    (no_process || many-processes)
    ∷ no_lookahead
    ∷ any_of (many-edges ∷ many-pending ∷ many-batch ∷ long-pending ∷ long-batch ∷ [])
    ∷ any_of (strange-edge ∷ strange-pending ∷ strange-batch ∷ [])
    ∷ bad-edge
    ∷ order-pending
    ∷ late-pending
    ∷ top-horizon
    ∷ no_horizon
    ∷ no_run
    ∷ order-batch
    ∷ wrong_record_holds
    ∷ no-edge-lookahead
    ∷ false
    ∷ false
    ∷ [])
unfolding any_of any
regrouped no_process many-processes no_lookahead many-edges many-pending many-batch top-horizon no_horizon no_run strange-edge no-edge-lookahead bad-edge wrong_record_holds strange-pending long-pending order-pending late-pending strange-batch long-batch order-batch = simp (or_assoc, or_comm, or_swap, or-false)

some_tab : {A : Type 0} (f : ℕ → A) (i n : ℕ) → non_empty (tab f i n) ≡ ltb 0 n
unfolding non_empty tab
some_tab f i zero = refl
some_tab f i (suc n) = sym (lt-ltb 0 (suc n) (omega arith))

-- What the program's tests say of a header and its arrays is what the rule says.
pub ruled : (h : Header) (edges pending processes batch : List ℕ) (r : Bool)
    → r ≡ any_of (any_of (header_tests h) ∷ any_of (edge_tests h.n (edges_of h.edges edges) (inbounds_of h.n processes)) ∷ any_of (pending_tests h.n h.next (events_of h.pending pending)) ∷ any_of (batch_tests h.n (events_of h.batch batch)) ∷ [])
    → IsForeign h edges pending processes batch r
unfolding IsForeign foreign over_limit unknown_id wrong_record
ruled h edges pending processes batch r e =
    let w : not (eqb (length (horizons_of h.n processes)) h.n) ≡ false = not_of_true _ (eq-eqb _ _ (length_tab (tick_of processes) 0 h.n)) in
    let m : not (eqb (length (inbounds_of h.n processes)) h.n) ≡ false = not_of_true _ (eq-eqb _ _ (length_tab (inbound_at processes) 0 h.n)) in
    rw (w, m, length_tab (edge_at edges) 0 h.edges, length_tab (event_at pending) 0 h.pending, length_tab (event_at batch) 0 h.batch, some_tab (event_at batch) 0 h.batch)
    (e ∙ regrouped _ _ _ _ _ _ _ _ _ _ _ _ _ _ _ _ _ _ _ _)

-- What the answer x of `is_foreign` tells of the state.
pub foreign_is : (s : Runtime) (x b : Bool) → IsForeign s.head s.edges s.pending s.processes s.batch x → x ≡ b → foreign (view_of s) ≡ b
unfolding IsForeign
foreign_is s x b i e = sym i ∙ e
