-- Document 01's number and values of what plan answers: "For any answer that is an enum, a definition gives this paper's number and values for each of its cases."
use Rattle.std.specs.Prelude.{List, [], ◌∷◌, ℕ, Result, Ok, Err}
use Rattle.partition.specs.declared.PlanRefusal.{PlanRefusal}
use Rattle.partition.specs.declared.PlanRefusal.TheVariants as P

-- Column "No." of each refusal.
abbrev pub number_for : PlanRefusal → ℕ
number_for (P.InvalidPartitionCount n) = 1
number_for P.InvalidLookahead = 2
number_for P.EmptyPartitionEntities = 34
number_for (P.DuplicatePartitionEntity i g) = 35
number_for P.TooManyEntities = 36

-- 0 where nothing is refused.
abbrev pub number_of : Result ℕ PlanRefusal → ℕ
number_of (Ok k) = 0
number_of (Err r) = number_for r

-- Column "Returned" of each refusal, an entity by its index and then its generation.
abbrev pub values_for : PlanRefusal → List ℕ
values_for (P.InvalidPartitionCount n) = n ∷ []
values_for P.InvalidLookahead = []
values_for P.EmptyPartitionEntities = []
values_for (P.DuplicatePartitionEntity i g) = i ∷ g ∷ []
values_for P.TooManyEntities = []

-- Of a plan how many entities were written.
abbrev pub values_of : Result ℕ PlanRefusal → List ℕ
values_of (Ok k) = k ∷ []
values_of (Err r) = values_for r
