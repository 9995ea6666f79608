-- What a turn of the host promises: it has come further along the plan's run.
use Rattle.std.specs.Prelude.{◌≡◌, true, false, List, ℕ, ◌<◌}
use Rattle.rules.specs.Base.{none}
use Rattle.state.specs.Numbers.{number_of}
use Rattle.plan_rules.specs.Host.{next}
use Rattle.plan_rules.specs.Run.{run}
use Rattle.plan_rules.specs.Listing.{last_number}
use Rattle.plan_round.specs.declared.Turn.{Turn}
use Rattle.plan_round.specs.Reached.{plan_of, Reached, ListedSoFar, Stepping}

-- The run has come to what r says.
pub record Came (s : List ℕ) (r : Turn) (edges pending processes batch table reply listing : List ℕ) : Type 0 where
  pub reached : Reached (plan_of s) r.calls r.head r.counters edges pending processes batch
  pub listed : ListedSoFar (plan_of s) r.calls listing r.at
  pub number : number_of r.answer ≡ last_number (run (plan_of s) r.calls).entries
  -- It goes on as long as nothing is refused and it is open.
  pub goes : number_of r.answer ≡ 0 → r.head.running ≡ true → Stepping s r.calls r.head r.counters edges pending processes batch table reply listing r.at
  pub stops : 0 < number_of r.answer → next (plan_of s) (run (plan_of s) r.calls).entries ≡ none
  pub closes : r.head.running ≡ false → next (plan_of s) (run (plan_of s) r.calls).entries ≡ none

pub record Turns (s : List ℕ) (k : ℕ) (r : Turn) (edges pending processes batch table reply listing : List ℕ) : Type 0 where
  pub later : k < r.calls
  pub came : Came s r edges pending processes batch table reply listing

-- The lines of a batch stay where its hand back answered Committed or 24.
pub record PlaceAfter (number at listed r : ℕ) : Type 0 where
  pub committed : number ≡ 0 → r ≡ listed
  pub spent : number ≡ 24 → r ≡ listed
  pub other : (number ≡ 0 → ⊥) → (number ≡ 24 → ⊥) → r ≡ at
