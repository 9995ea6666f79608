-- Document 01's number and values of what build answers: "For any answer that is an enum, a definition gives this paper's number and values for each of its cases."
use Rattle.std.specs.Prelude.{List, [], ◌∷◌, ℕ, Result, Ok, Err}
use Rattle.types.specs.Value.{lp_id_of}
use Rattle.build.specs.declared.BuildRefusal.{BuildRefusal}
use Rattle.build.specs.declared.BuildRefusal.TheVariants as P

-- Column "No."; 0 where nothing is refused.
abbrev pub number_of : Result (Unit {0}) BuildRefusal → ℕ
number_of (Ok u) = 0
number_of (Err (P.InvalidPartitionCount n)) = 1
number_of (Err P.InvalidLookahead) = 2
number_of (Err P.UnorderedProcesses) = 3
number_of (Err (P.ProcessSetMismatch m u)) = 4
number_of (Err P.MalformedTopology) = 5
number_of (Err (P.MissingTopologyEntry p)) = 6
number_of (Err (P.UnknownTopologySource p)) = 7
number_of (Err (P.UnknownTopologyDestination p d)) = 8
number_of (Err (P.SelfLoop p)) = 9
number_of (Err (P.DuplicateNeighbor p d)) = 10
number_of (Err P.InvalidEdgeLookahead) = 40

-- Column "Returned".
abbrev pub values_of : Result (Unit {0}) BuildRefusal → List ℕ
values_of (Ok u) = []
values_of (Err (P.InvalidPartitionCount n)) = n ∷ []
values_of (Err P.InvalidLookahead) = []
values_of (Err P.UnorderedProcesses) = []
values_of (Err (P.ProcessSetMismatch m u)) = m ∷ u ∷ []
values_of (Err P.MalformedTopology) = []
values_of (Err (P.MissingTopologyEntry p)) = lp_id_of p ∷ []
values_of (Err (P.UnknownTopologySource p)) = lp_id_of p ∷ []
values_of (Err (P.UnknownTopologyDestination p d)) = lp_id_of p ∷ lp_id_of d ∷ []
values_of (Err (P.SelfLoop p)) = lp_id_of p ∷ []
values_of (Err (P.DuplicateNeighbor p d)) = lp_id_of p ∷ lp_id_of d ∷ []
values_of (Err P.InvalidEdgeLookahead) = []
