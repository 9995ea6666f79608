-- What each check answers, in the words of rules/Build.
use Rattle.std.specs.Prelude.{◌≡◌, Bool, not, List, [], ℕ, ◌*◌, ◌≤◌, ◌<◌, length, get_or, Result, Ok, Err}
use Rattle.rules.specs.Base.{Maybe, none, some, sum}
use Rattle.rules.specs.Answers
use Rattle.rules.specs.Answers.{Refusal}
use Rattle.rules.specs.Rows.{Row, unless}
use Rattle.rules.specs.Build.{Target, setup, malformed_rows, destination_rows}
use Rattle.types.specs.Value.{lp_id_of}
use Rattle.build_topology.specs.declared.TopologyRefusal.{TopologyRefusal}
use Rattle.build_topology.specs.declared.TopologyRefusal.TheVariants as fault
use Rattle.build_topology.specs.Lookaheads.{lookaheads_for}

-- 5: of every setup with these rows; the lookaheads come as words.
pub record RowsWellFormed (sources counts destinations lookaheads : List ℕ) (r : Bool) : Type 0 where
  pub of_setup : (n lookahead : ℕ) (ids : List ℕ) → r ≡ not (malformed_rows (setup n lookahead ids sources counts destinations (lookaheads_for destinations lookaheads)))

-- 7 to 10 and 40: the refusal that an answer is, if it is one.
abbrev pub refusal_of : Result (Unit {0}) TopologyRefusal → Maybe Refusal
refusal_of (Ok u) = none
refusal_of (Err (fault.UnknownTopologySource p)) = some (Answers.UnknownTopologySource (lp_id_of p))
refusal_of (Err (fault.UnknownTopologyDestination p d)) = some (Answers.UnknownTopologyDestination (lp_id_of p) (lp_id_of d))
refusal_of (Err (fault.SelfLoop p)) = some (Answers.SelfLoop (lp_id_of p))
refusal_of (Err (fault.DuplicateNeighbor p d)) = some (Answers.DuplicateNeighbor (lp_id_of p) (lp_id_of d))
refusal_of (Err fault.InvalidEdgeLookahead) = some Answers.InvalidEdgeLookahead

-- .. and the one that the first row whose test holds decides on.
unfoldable pub first_refusal : List Row → Maybe Refusal
first_refusal rows = unless rows some none

-- A mark for each process, none of them the row's stamp yet.
pub record Unmarked (n : ℕ) (marks : List ℕ) (stamp : ℕ) : Type 0 where
  pub room : n ≤ length marks
  pub unmarked : (x : ℕ) → get_or marks x 0 < stamp

-- One row's 8, 9, 10 and 40; and no mark is above its stamp.
pub record CheckedRow (n p : ℕ) (ts : List Target) (marks : List ℕ) (stamp : ℕ) (r : Result (Unit {0}) TopologyRefusal) : Type 0 where
  pub answer : refusal_of r ≡ first_refusal (destination_rows n p [] ts)
  pub marked : (x : ℕ) → get_or marks x 0 ≤ stamp

-- What 7 to 10 and 40 are asked of: at most 64 processes, and lists that passed 5.
pub record RowsPassed (n : ℕ) (sources counts destinations lookaheads : List ℕ) : Type 0 where
  pub few : n ≤ 64
  pub paired : length sources ≡ length counts
  pub used_up : sum counts ≡ length destinations
  pub beside : length lookaheads ≡ 2 * length destinations
