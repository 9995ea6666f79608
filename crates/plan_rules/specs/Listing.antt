-- The listing of a plan, from the history of its run.
use Rattle.std.specs.Prelude.{List, [], ◌∷◌, ◌++◌, ℕ}
use Rattle.rules.specs.Base.{if◌then◌otherwise◌, Maybe, none, some}
use Rattle.rules.specs.State.{Event, State, zeros}
use Rattle.rules.specs.Answers.{number}
use Rattle.rules.specs.Build.{build}
use Rattle.rules.specs.History.{Entry, History, in_hand, commits}
use Rattle.plan_file.specs.Plan.{Plan}
use Rattle.plan_rules.specs.Setup.{setup_of, too_long}
use Rattle.plan_rules.specs.Run.{ran}
use Rattle.plan_rules.specs.Text.{decimal, hexadecimal, space, feed}

-- "process, tick as 32 lower-case hexadecimal digits, source; one space between, a line feed behind every line"
unfoldable pub event_line : Event → List ℕ
event_line e = decimal e.destination ++ (space ∷ hexadecimal 32 e.tick ++ (space ∷ decimal e.source ++ (feed ∷ [])))

unfoldable pub event_lines : List Event → List ℕ
event_lines [] = []
event_lines (e ∷ es) = event_line e ++ event_lines es

-- "a line per handled event .., by round then process, none for a batch refused by other than 24": a batch is in the order of its processes.
unfoldable pub handled_lines : List Entry → List ℕ
handled_lines [] = []
handled_lines (e ∷ es) = handled_lines es ++ (if commits e then event_lines (in_hand es) otherwise [])

-- "`end`, refusal number or 0, GVT in 32 digits, rounds, null messages": 101, 110 and 100 are `end`.
unfoldable pub end_line : ℕ → ℕ → ℕ → ℕ → List ℕ
end_line k gvt rounds null_message_count = 101 ∷ 110 ∷ 100 ∷ space ∷ decimal k ++ (space ∷ hexadecimal 32 gvt ++ (space ∷ decimal rounds ++ (space ∷ decimal null_message_count ++ (feed ∷ []))))

-- Document 01's number of the last answer: that of the refusal that ended the run, or 0.
unfoldable pub last_number : List Entry → ℕ
last_number [] = 0
last_number (e ∷ es) = number e.answer

unfoldable pub listing : History → List ℕ
listing y = handled_lines y.entries ++ end_line (last_number y.entries) y.now.gvt y.counters.rounds y.counters.null_messages

-- The listing of a plan, or 39.
pub data Rehearsal : Type 0 where
  listed : List ℕ → Rehearsal
  refused : ℕ → Rehearsal

unfoldable pub once_built : Plan → ℕ → Maybe State → Rehearsal
once_built p k none = listed (end_line k 0 0 0)
once_built p k (some s) = let whole = listed (listing (ran p)) in if too_long p then refused 39 otherwise whole

-- "Build comes first, then 39, the initial events in turn, then the run; the first refusal ends it." "with zeros where nothing was built"
unfoldable pub rehearsed : Plan → Rehearsal
rehearsed p = let b = build (setup_of p) zeros in once_built p (number b.answer) b.made
