-- Which lookaheads the words of a list are. A.4: "Each edge gets its own lookahead, beside its destination in build's list".
use Rattle.std.specs.Prelude.{List, [], ◌∷◌, ℕ}
use Rattle.rules.specs.Build.{Target, targets}
use Rattle.types.specs.Value.{halves}

-- Those of the destinations: two words each, the upper half first. Words left over make one lookahead too many, and missing words make too few, so that 5 refuses both.
unfoldable pub lookaheads_for : List ℕ → List ℕ → List ℕ
lookaheads_for [] [] = []
lookaheads_for [] (w ∷ ws) = 0 ∷ []
lookaheads_for (d ∷ ds) [] = []
lookaheads_for (d ∷ ds) (hi ∷ []) = []
lookaheads_for (d ∷ ds) (hi ∷ lo ∷ ws) = halves hi lo ∷ lookaheads_for ds ws

-- The destinations, each with its lookahead.
abbrev pub targets_for : List ℕ → List ℕ → List Target
targets_for ds ws = targets ds (lookaheads_for ds ws)
