-- 27 to 33 in the order of the list: 28 to 33 of the emissions in turn up to the first failed process, then 27 of it.
use Rattle.std.specs.Prelude.{Bool, true, false, List, [], ◌∷◌, ◌++◌, ℕ, ltb, eqb, Option, Some, None}
use Rattle.types.specs.declared.LpId.{LpId}
use Rattle.types.specs.Value.{lp_id_of}
use Rattle.rules.specs.Base.{if◌then◌otherwise◌}
use Rattle.rules.specs.State.{Event, State, saturating_add}
use Rattle.rules.specs.Answers as A
use Rattle.rules.specs.Rows.{Row, ◌⇒◌}
use Rattle.rules.specs.Pending.{first_tick}
use Rattle.rules.specs.HandBack.{Emission, failed, is_remote}
use Rattle.hand_back_emission.specs.Checks.{rows_of}

-- The emitter of the last emission, or `last` if there is none.
unfoldable pub last_of : ℕ → List Emission → ℕ
last_of last [] = last
last_of last (x ∷ xs) = last_of x.emitter xs

-- How many are remote, with x among them.
unfoldable pub counted : ℕ → Emission → ℕ
counted remote x = if is_remote x then saturating_add remote 1 otherwise remote

-- The first process in hand that failed.
unfoldable pub first_failed : ℕ → List Event → Option LpId
first_failed mask [] = None
first_failed mask (e ∷ es) = if failed mask e.destination then Some (record { 0 = e.destination }) otherwise first_failed mask es

-- Whether p is behind the failed one.
abbrev pub past_failed : Option LpId → ℕ → Bool
past_failed (Some f) p = ltb (lp_id_of f) p
past_failed None p = false

-- 28 to 33 of the emission x, whose event has the tick t, unless its process is behind the failed one.
unfoldable pub rows_of_next : State → Option LpId → ℕ → Emission → List Row
rows_of_next s f t x = if past_failed f x.emitter then [] otherwise rows_of s t x

-- The same of emissions in turn.
unfoldable pub rows_up_to : State → List Event → Option LpId → List Emission → List Row
rows_up_to s q f [] = []
rows_up_to s q f (x ∷ xs) = rows_of_next s f (first_tick q x.emitter 0) x ++ rows_up_to s q f xs

-- 27 of the failed one.
abbrev pub failed_row : Option LpId → List Row
failed_row (Some f) = (true ⇒ A.HandlerFailed (lp_id_of f)) ∷ []
failed_row None = []

-- The rows of the emissions of p that stand in front, p's event having the tick t; and what stands behind these.
unfoldable pub own_rows : State → ℕ → ℕ → List Emission → List Row
own_rows s t p [] = []
own_rows s t p (x ∷ xs) = if eqb x.emitter p then rows_of s t x ++ own_rows s t p xs otherwise []

unfoldable pub behind : ℕ → List Emission → List Emission
behind p [] = []
behind p (x ∷ xs) = if eqb x.emitter p then behind p xs otherwise x ∷ xs
