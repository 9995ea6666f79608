-- The numbers that values are, in their order.
use Rattle.std.specs.Prelude.{List, [], ◌∷◌, ℕ}
use Rattle.partition_text.specs.declared.PlanValues.{PlanValues}
use Rattle.partition_text.specs.declared.PlanValues.TheVariants.{Nothing, Count, Entity}

abbrev pub list_of : PlanValues → List ℕ
list_of Nothing = []
list_of (Count k) = k ∷ []
list_of (Entity i g) = i ∷ g ∷ []
