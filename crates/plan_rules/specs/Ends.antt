-- The run of a plan ends: by Finished or a refusal, after at most `enough` calls, and to allow it more changes nothing.
use Rattle.std.specs.Prelude.{◌≡◌, Bool, true, false, List, [], ◌∷◌, ℕ, ◌≤◌, ◌<◌, length}
use Rattle.rules.specs.Base.{none, some}
use Rattle.rules.specs.Answers.{Answer, Accepted, Batch, Advanced, Finished, Committed, Read, Planned, Refused}
use Rattle.rules.specs.Calls.{Call}
use Rattle.rules.specs.History.{Entry}
use Rattle.plan_file.specs.Plan.{Plan}
use Rattle.plan_rules.specs.Host.{next}
use Rattle.plan_rules.specs.Run.{run, enough, ran}

-- Finished, or a refusal.
unfoldable pub final : Answer → Bool
final Accepted = false
final (Batch bs g) = false
final (Advanced g) = false
final (Finished g) = true
final (Committed g) = false
final (Read r) = false
final (Planned j) = false
final (Refused r) = true

unfoldable pub closes : List Entry → Bool
closes [] = false
closes (e ∷ es) = final e.answer

pub record Ends (p : Plan) : Type 0 where
  -- The last answer is Finished or a refusal, and the host calls no more.
  pub by : closes (ran p).entries ≡ true
  pub over : next p (ran p).entries ≡ none
  pub same : (k : ℕ) → enough p ≤ k → run p k ≡ ran p
  pub few : length (ran p).entries ≤ enough p
  -- As long as the host goes on, fewer calls were made.
  pub short : (k : ℕ) (c : Call) → next p (run p k).entries ≡ some c → k < enough p
