-- What an advance asks and leaves, in the words of the rules.
use Rattle.std.specs.Prelude.{◌≡◌, Bool, List, ℕ, suc, ◌^◌, ◌-◌, ◌≤◌, ◌<◌, length}
use Rattle.types.specs.Value.{ticks_of}
use Rattle.records.specs.Records.{events_of}
use Rattle.rules.specs.State.{State}
use Rattle.rules.specs.Step.{spent}
use Rattle.rules.specs.InPlace.{advanced_in_place}
use Rattle.rules.proofs.Shape.{Queued}
use Rattle.inbound.specs.Inbound.{Destinations}
use Rattle.frontiers.specs.Tables.{FirstTicks}
use Rattle.frontiers.specs.Rises.{Sources}
use Rattle.state.specs.declared.Header.{Header}
use Rattle.state.specs.View.{view}
use Rattle.state.specs.Headers.{with_gvt}
use Rattle.step_advance.specs.declared.Advanced.{Advanced}

pub record CanAdvance (h : Header) (edges processes : List ℕ) : Type 0 where
  pub few_processes : h.n ≤ 64
  pub few : h.edges ≤ 512
  pub edge_words : length edges ≡ 3072
  pub process_words : length processes ≡ 256
  pub sources : Sources h.n h.edges edges
  pub destinations : Destinations 64 h.edges edges
  pub horizon : ticks_of h.horizon < 2 ^ 128 - 1

-- `first` has the first ticks of the events P, or H.
abbrev pub FirstTicksOf : Header → List ℕ → List ℕ → Type 0
FirstTicksOf h P first = FirstTicks h.n (events_of h.pending P) (suc (ticks_of h.horizon)) first

-- "used >= budget and an event is eligible", whatever the edges and the batch are.
unfoldable pub BudgetSpent : Header → List ℕ → List ℕ → Bool → Type 0
BudgetSpent h processes first r = (E P B : List ℕ) → FirstTicksOf h P first → r ≡ spent (view h E P processes B) (ticks_of h.horizon) h.budget

-- The advance of A.3, bounds written one by one, leads from the state s to t.
unfoldable pub AdvancesTo : State → ℕ → Advanced → State → Type 0
AdvancesTo s horizon r t = record { state = t; raised = r.raised; rose = r.rose } ≡ advanced_in_place s horizon

-- Whatever the pending events, as 11 lets them pass, and the batch are.
pub record Advances (h : Header) (edges processes first : List ℕ) (r : Advanced) (edges' processes' : List ℕ) : Type 0 where
  pub head : r.head ≡ with_gvt h r.head.gvt
  pub advances : (P B : List ℕ) → Queued h.n h.next (events_of h.pending P) → FirstTicksOf h P first → AdvancesTo (view h edges P processes B) (ticks_of h.horizon) r (view r.head edges' P processes' B)
