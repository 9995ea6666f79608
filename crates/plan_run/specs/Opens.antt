-- The initial events in turn, then begin.
use Rattle.std.specs.Prelude.{◌≡◌, true, List, [], ℕ, ◌≤◌, ◌<◌, length, drop}
use Rattle.bits.specs.Bytes.{stream}
use Rattle.types.specs.declared.SimTime.{SimTime}
use Rattle.types.specs.Value.{ticks_of}
use Rattle.words.specs.Words.{zeroes}
use Rattle.rules.specs.Base.{none, some}
use Rattle.rules.specs.Calls.{Begin, Step}
use Rattle.rules.specs.History.{initials}
use Rattle.state.specs.declared.Header.{Header}
use Rattle.state.specs.View.{zero_counters}
use Rattle.state.specs.Numbers.{number_of}
use Rattle.plan_file.specs.Plan.{Plan}
use Rattle.plan_file.specs.Grammar.{message}
use Rattle.plan_file.specs.Standing.{Standing}
use Rattle.plan_rules.specs.Host.{left, opening, next}
use Rattle.plan_rules.specs.Run.{run}
use Rattle.plan_rules.specs.Listing.{handled_lines, last_number}
use Rattle.plan_round.specs.Reached.{plan_of, Reached}
use Rattle.plan_run.specs.declared.Opened.{Opened}

-- Before the run: nothing is counted, in hand or handled.
pub record Before (p : Plan) (k : ℕ) (h : Header) (edges pending processes : List ℕ) : Type 0 where
  pub reached : Reached p k h zero_counters edges pending processes (zeroes 512)
  pub nothing_left_out : left p (run p k).entries ≡ p.replies
  pub no_lines : handled_lines (run p k).entries ≡ []

-- k initial events are accepted, and the next stands at the bit `at`.
pub record Adding (s : List ℕ) (k at : ℕ) (h : Header) (edges pending processes : List ℕ) : Type 0 where
  pub before : Before (plan_of s) k h edges pending processes
  pub next_is : next (plan_of s) (run (plan_of s) k).entries ≡ some (opening (plan_of s) (run (plan_of s) k).entries)
  pub added : initials (run (plan_of s) k).entries ≡ k
  pub number : 0 ≡ last_number (run (plan_of s) k).entries
  pub short : length s ≤ 16384
  pub standing : Standing message (stream s) at (drop k (plan_of s).initial)
  pub inside : k ≤ length (plan_of s).initial
  pub countable : length (plan_of s).initial < 1024

-- All of them are, and begin is next; or one was refused, and that is the end.
pub record Adds (s : List ℕ) (r : Opened) (edges pending processes : List ℕ) : Type 0 where
  pub before : Before (plan_of s) r.calls r.head edges pending processes
  pub number : number_of r.answer ≡ last_number (run (plan_of s) r.calls).entries
  pub goes : number_of r.answer ≡ 0 → next (plan_of s) (run (plan_of s) r.calls).entries ≡ some (Begin (plan_of s).horizon (plan_of s).budget)
  pub stops : 0 < number_of r.answer → next (plan_of s) (run (plan_of s) r.calls).entries ≡ none
  pub few : r.calls < 1024

-- The run is open and a step is next; or there is none.
pub record Opens (s : List ℕ) (r : Opened) (edges pending processes : List ℕ) : Type 0 where
  pub before : Before (plan_of s) r.calls r.head edges pending processes
  pub number : number_of r.answer ≡ last_number (run (plan_of s) r.calls).entries
  pub goes : number_of r.answer ≡ 0 → (next (plan_of s) (run (plan_of s) r.calls).entries ≡ some Step) × (r.head.running ≡ true)
  pub stops : 0 < number_of r.answer → next (plan_of s) (run (plan_of s) r.calls).entries ≡ none

-- What begin is asked with.
pub record Begun (s : List ℕ) (horizon : SimTime) (budget : ℕ) : Type 0 where
  pub horizon_is : ticks_of horizon ≡ (plan_of s).horizon
  pub budget_is : budget ≡ (plan_of s).budget
