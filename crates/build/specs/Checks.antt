-- What build answers: document 01's rows 1 to 10 and A.4's 40, as rules/Build has them. The lookaheads of the edges come as words.
use Rattle.std.specs.Prelude.{◌≡◌, List, ℕ, take, drop, Result, Ok, Err}
use Rattle.rules.specs.Base.{Maybe, none, some}
use Rattle.rules.specs.Answers as A
use Rattle.rules.specs.Rows.{Row, unless}
use Rattle.rules.specs.State.{Counters}
use Rattle.rules.specs.Build.{setup, build_rows, build}
use Rattle.types.specs.Value.{lp_id_of}
use Rattle.build_topology.specs.Lookaheads.{lookaheads_for}
use Rattle.build.specs.declared.BuildRefusal.{BuildRefusal}
use Rattle.build.specs.declared.BuildRefusal.TheVariants as P

-- The rules' answer that each answer stands for.
abbrev pub answer_of : Result (Unit {0}) BuildRefusal → A.Answer
answer_of (Ok u) = A.Accepted
answer_of (Err (P.InvalidPartitionCount n)) = A.Refused (A.InvalidPartitionCount n)
answer_of (Err P.InvalidLookahead) = A.Refused A.InvalidLookahead
answer_of (Err P.UnorderedProcesses) = A.Refused A.UnorderedProcesses
answer_of (Err (P.ProcessSetMismatch m u)) = A.Refused (A.ProcessSetMismatch m u)
answer_of (Err P.MalformedTopology) = A.Refused A.MalformedTopology
answer_of (Err (P.MissingTopologyEntry p)) = A.Refused (A.MissingTopologyEntry (lp_id_of p))
answer_of (Err (P.UnknownTopologySource p)) = A.Refused (A.UnknownTopologySource (lp_id_of p))
answer_of (Err (P.UnknownTopologyDestination p d)) = A.Refused (A.UnknownTopologyDestination (lp_id_of p) (lp_id_of d))
answer_of (Err (P.SelfLoop p)) = A.Refused (A.SelfLoop (lp_id_of p))
answer_of (Err (P.DuplicateNeighbor p d)) = A.Refused (A.DuplicateNeighbor (lp_id_of p) (lp_id_of d))
answer_of (Err P.InvalidEdgeLookahead) = A.Refused A.InvalidEdgeLookahead

-- The answer that a refusal makes, or its absence; and that of a table, or of a part of one.
abbrev pub answer_for : Maybe A.Refusal → A.Answer
answer_for none = A.Accepted
answer_for (some why) = A.Refused why

unfoldable pub answer_of_rows : List Row → A.Answer
answer_of_rows rows = unless rows A.Refused A.Accepted

-- The first four checks, of every setup with these processes; and the others, of every setup with these rows.
pub record ChecksProcesses (n L : ℕ) (ids : List ℕ) (r : Result (Unit {0}) BuildRefusal) : Type 0 where
  pub of_setup : (sources counts destinations lookaheads : List ℕ) → answer_of r ≡ answer_of_rows (take 4 (build_rows (setup n L ids sources counts destinations lookaheads)))

pub record ChecksTopology (n : ℕ) (sources counts destinations lookaheads : List ℕ) (r : Result (Unit {0}) BuildRefusal) : Type 0 where
  pub of_setup : (L : ℕ) (ids : List ℕ) → answer_of r ≡ answer_of_rows (drop 4 (build_rows (setup n L ids sources counts destinations (lookaheads_for destinations lookaheads))))

-- What build answers, whatever the counters are.
pub record ChecksBuild (n L : ℕ) (ids sources counts destinations lookaheads : List ℕ) (r : Result (Unit {0}) BuildRefusal) : Type 0 where
  pub of_counters : (c : Counters) → answer_of r ≡ (build (setup n L ids sources counts destinations (lookaheads_for destinations lookaheads)) c).answer
