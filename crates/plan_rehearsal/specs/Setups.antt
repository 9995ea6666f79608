-- What the parts of a rehearsal ask: build's lists for the plan, and that build accepted them.
use Rattle.std.specs.Prelude.{◌≡◌, true, false, List, map, ℕ, ◌*◌, ◌≤◌, ◌<◌, length, get_or}
use Rattle.types.specs.Value.{duration_of}
use Rattle.rules.specs.State as R
use Rattle.rules.specs.Answers.{Accepted}
use Rattle.rules.specs.Build.{setup, build}
use Rattle.words.specs.Words.{ticks_in}
use Rattle.build_topology.specs.Lookaheads.{lookaheads_for}
use Rattle.plan_file.specs.Plan.{PlanEdge}
use Rattle.plan_file.specs.declared.Parts.{Parts}
use Rattle.plan_reader.specs.declared.PlanHeader.{PlanHeader}
use Rattle.plan_reader.specs.Read.{HeaderOf}
use Rattle.plan_rules.specs.Setup.{setup_of, lookaheads_of, too_long}
use Rattle.plan_rules.specs.Laws.{standing}
use Rattle.plan_round.specs.Reached.{plan_of}
use Rattle.plan_rehearsal.specs.Rehearses.{Checked}

-- The file, its header and its parts are the plan's.
pub record Known (s : List ℕ) (parts : Parts) (header : PlanHeader) : Type 0 where
  pub checked : Checked s parts
  pub header_of : HeaderOf (plan_of s) header

-- Its edges were read, and 1, 2 and 5 let it pass.
pub record CanMakeRows (s : List ℕ) (parts : Parts) (header : PlanHeader) (from destinations lookaheads : List ℕ) : Type 0 where
  pub known : Known s parts header
  pub few : (plan_of s).n ≤ 64
  pub sources_are : from ≡ map (λ (e : PlanEdge). e.source) (plan_of s).edges
  pub destinations_are : destinations ≡ map (λ (e : PlanEdge). e.destination) (plan_of s).edges
  pub two_each : length lookaheads ≡ 2 * length destinations
  pub lookaheads_are : ticks_in (length destinations) lookaheads ≡ lookaheads_of (plan_of s)
  pub stand : standing (plan_of s) ≡ true
  pub below : (i : ℕ) → get_or from i 0 < 64

-- The lists are those that build gets for the plan.
pub record IsSetup (s : List ℕ) (parts : Parts) (header : PlanHeader) (ids sources counts destinations lookaheads : List ℕ) : Type 0 where
  pub known : Known s parts header
  pub lists : setup header.n (duration_of header.lookahead) ids sources counts destinations (lookaheads_for destinations lookaheads) ≡ setup_of (plan_of s)
  pub two_each : length lookaheads ≡ 2 * length destinations
  pub lookaheads_are : ticks_in (length destinations) lookaheads ≡ lookaheads_of (plan_of s)

-- Build accepts them, and 39 lets them pass.
pub record CanRun (s : List ℕ) (parts : Parts) (header : PlanHeader) (sources counts destinations lookaheads : List ℕ) : Type 0 where
  pub ids : List ℕ
  pub is_setup : IsSetup s parts header ids sources counts destinations lookaheads
  pub accepted : (build (setup_of (plan_of s)) R.zeros).answer ≡ Accepted
  pub short_enough : too_long (plan_of s) ≡ false
