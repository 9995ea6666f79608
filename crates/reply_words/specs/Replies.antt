-- What 26 asks of a reply, with the batch as a table of places.
use Rattle.std.specs.Prelude.{◌≡◌, Bool, false, not, ◌&&◌, ◌||◌, List, [], ◌∷◌, ℕ, suc, ltb, eqb, length, get_or}
use Rattle.rules.specs.Base.{if◌then◌otherwise◌, up_to, any, any_of}
use Rattle.rules.specs.State.{Event, max_processes, max_payload}
use Rattle.rules.specs.HandBack.{Emission, failed, in_batch}

-- The place of p's first event, counted from 1, or 0 if it has none; the first of the list has place i + 1.
unfoldable pub place_from : ℕ → List Event → ℕ → ℕ
place_from i [] p = 0
place_from i (e ∷ es) p = if eqb e.destination p then suc i otherwise place_from (suc i) es p

-- The table t holds the place of every process's event in the batch q. Past its end it reads 0: such a process has none.
unfoldable pub Places : List Event → List ℕ → Type 0
Places q t = (p : ℕ) → get_or t p 0 ≡ place_from 0 q p

-- "an emitter or failed process isn't in the batch": of a process, and of the mask.
abbrev pub failed_without_event : List Event → ℕ → ℕ → Bool
failed_without_event q mask p = failed mask p && not (in_batch q p)

unfoldable pub failed_not_in_batch : List Event → ℕ → Bool
failed_not_in_batch q mask = any (failed_without_event q mask) (up_to max_processes)

-- The same sentence of one emission, `last` being the emitter before it, and of emissions in turn.
unfoldable pub malformed_emission : List Event → ℕ → ℕ → Emission → Bool
malformed_emission q mask last x = any_of (ltb x.emitter last ∷ not (in_batch q x.emitter) ∷ failed mask x.emitter ∷ ltb max_payload (length x.message.payload) ∷ [])

unfoldable pub any_malformed_emission : List Event → ℕ → ℕ → List Emission → Bool
any_malformed_emission q mask last [] = false
any_malformed_emission q mask last (x ∷ xs) = malformed_emission q mask last x || any_malformed_emission q mask x.emitter xs

-- The answers, for any batch that the table t is of.
unfoldable pub FailedWithoutEvent : ℕ → List ℕ → ℕ → Bool → Type 0
FailedWithoutEvent mask t p r = (q : List Event) → Places q t → r ≡ failed_without_event q mask p

unfoldable pub FailedNotInBatch : ℕ → List ℕ → Bool → Type 0
FailedNotInBatch mask t r = (q : List Event) → Places q t → r ≡ failed_not_in_batch q mask

unfoldable pub MalformedEmission : ℕ → List ℕ → ℕ → Emission → Bool → Type 0
MalformedEmission mask t last x r = (q : List Event) → Places q t → r ≡ malformed_emission q mask last x
