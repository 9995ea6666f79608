-- The batch in one pass over pending events that stand by destination: what each turn of the pass decides.
use Rattle.std.specs.Prelude.{Bool, ◌&&◌, List, [], ◌∷◌, ℕ, ◌+◌, ◌-◌, max, leb, ltb}
use Rattle.rules.specs.Base.{if◌then◌otherwise◌}
use Rattle.rules.specs.State.{Event}
use Rattle.rules.specs.Step.{BatchTaken}

-- The event is taken to the batch, or kept pending.
abbrev pub to_batch : Event → BatchTaken → BatchTaken
to_batch e r = record { events = e ∷ r.events; left = r.left }

abbrev pub kept_pending : Event → BatchTaken → BatchTaken
kept_pending e r = record { events = r.events; left = e ∷ r.left }

-- It is its process's first (processes below `seen` have been seen), there is room, and its tick is below the frontier.
unfoldable pub takes : (ℕ → ℕ) → ℕ → ℕ → Event → Bool
takes safe room seen e = leb seen e.destination && (ltb 0 room && ltb e.tick (safe e.destination))

abbrev pub seen_by : ℕ → Event → ℕ
seen_by seen e = max seen (e.destination + 1)

unfoldable pub scan : (ℕ → ℕ) → ℕ → ℕ → List Event → BatchTaken
scan safe room seen [] = record { events = []; left = [] }
scan safe room seen (e ∷ q) = if takes safe room seen e then to_batch e (scan safe (room - 1) (seen_by seen e) q) otherwise kept_pending e (scan safe room (seen_by seen e) q)
