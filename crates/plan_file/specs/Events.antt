-- How many events a plan has.
use Rattle.std.specs.Prelude.{ℕ, ◌+◌, List, [], ◌∷◌, length}
use Rattle.plan_file.specs.Plan.{Reply, Plan}

-- The emissions of all replies.
unfoldable pub emission_count : List Reply → ℕ
emission_count [] = 0
emission_count (r ∷ rs) = length r.messages + emission_count rs

unfoldable pub event_count : Plan → ℕ
event_count p = length p.initial + emission_count p.replies
