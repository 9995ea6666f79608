-- Begin: rows 11, 12, then 20 to 22.
use Rattle.std.specs.Prelude.{List, [], ◌∷◌, ℕ, leb, ltb}
use Rattle.rules.specs.State.{Stored, unset, stored, State, Counters, with_run, max_tick}
use Rattle.rules.specs.Answers
use Rattle.rules.specs.Answers.{Accepted}
use Rattle.rules.specs.Rows.{Row, ◌⇒◌, unless, Out, out, refuse}
use Rattle.rules.specs.Foreign.{foreign}

-- 21: "horizon below the last accepted". Nothing is below 0, which stands for none.
unfoldable pub previous : Stored → ℕ
previous unset = 0
previous (stored h b) = h

abbrev pub begin_rows : State → ℕ → List Row
begin_rows s h =
    (foreign s ⇒ Answers.ForeignState)
    ∷ (s.poisoned ⇒ Answers.Poisoned)
    ∷ (s.running ⇒ Answers.RunOpen)
    ∷ (ltb h (previous s.stored) ⇒ Answers.HorizonRegression (previous s.stored) h)
    ∷ (leb max_tick h ⇒ Answers.HorizonOverflow h)
    ∷ []

-- With the horizon h and the budget b.
unfoldable pub begin : State → Counters → ℕ → ℕ → Out
begin s c h b = unless (begin_rows s h) (refuse s c) (out Accepted (with_run s h b) c)
