-- The numbers that values are, in their order.
use Rattle.std.specs.Prelude.{List, [], ◌∷◌, ℕ}
use Rattle.types.specs.Value.{ticks_of, duration_of, lp_id_of}
use Rattle.answer_values.specs.declared.Values.{Values}
use Rattle.answer_values.specs.declared.Values.TheVariants as P

abbrev pub list_of : Values → List ℕ
list_of P.Nothing = []
list_of (P.Number n) = n ∷ []
list_of (P.Numbers m n) = m ∷ n ∷ []
list_of (P.Id p) = lp_id_of p ∷ []
list_of (P.Ids p q) = lp_id_of p ∷ lp_id_of q ∷ []
list_of (P.Tick t) = ticks_of t ∷ []
list_of (P.Ticks t u) = ticks_of t ∷ ticks_of u ∷ []
list_of (P.IdTicks p t u) = lp_id_of p ∷ ticks_of t ∷ ticks_of u ∷ []
list_of (P.IdThreeTicks p t u v) = lp_id_of p ∷ ticks_of t ∷ ticks_of u ∷ ticks_of v ∷ []
list_of (P.IdTickDuration p t d) = lp_id_of p ∷ ticks_of t ∷ duration_of d ∷ []
list_of (P.Counted c u) = c.processed_events ∷ c.emitted_events ∷ c.remote_events ∷ c.rounds ∷ c.null_messages ∷ c.worker_count ∷ u ∷ []
