-- Which of document 01's numbers, and 40 of document 02, the last line of a listing can have.
use Rattle.std.specs.Prelude.{◌≡◌, true, List, [], ◌∷◌, ℕ, ◌≤◌}
use Rattle.rules.specs.Base.{member}
use Rattle.rules.specs.State.{Counters, max_count}
use Rattle.rules.specs.Answers.{number}
use Rattle.rules.specs.Build.{build}
use Rattle.plan_file.specs.Plan.{Plan}
use Rattle.plan_file.specs.Events.{event_count}
use Rattle.plan_rules.specs.Setup.{setup_of}
use Rattle.plan_rules.specs.Run.{ran}
use Rattle.plan_rules.specs.Listing.{last_number}

-- Of a plan's build: 3, 4 and 6 cannot come. 40 can, by an edge of lookahead 0 (A.4).
abbrev pub build_numbers : List ℕ
build_numbers = 0 ∷ 1 ∷ 2 ∷ 5 ∷ 7 ∷ 8 ∷ 9 ∷ 10 ∷ 40 ∷ []

pub record BuildNumbers (p : Plan) (c : Counters) : Type 0 where
  pub among : member (number (build (setup_of p) c).answer) build_numbers ≡ true

-- Of its run: 0; 14 to 18 of an initial event, 22 of the horizon, 24; 26, 28 to 32 and 18 of a hand back. Others cannot come: 11 to 13, 20, 21, 23 and 25 by what the host calls when, 27 since no process fails, 33 since no emission is late.
abbrev pub end_numbers : List ℕ
end_numbers = 0 ∷ 14 ∷ 15 ∷ 16 ∷ 17 ∷ 18 ∷ 22 ∷ 24 ∷ 26 ∷ 28 ∷ 29 ∷ 30 ∷ 31 ∷ 32 ∷ []

-- Nor can 19, where there are no more events than sequence numbers: a file has 901 at most.
pub record EndNumbers (p : Plan) : Type 0 where
  pub among : event_count p ≤ max_count → member (last_number (ran p).entries) end_numbers ≡ true
