-- Turns until the host has no next call, and the listing's last line.
use Rattle.std.specs.Prelude.{◌≡◌, Bool, true, false, List, ◌++◌, ℕ, ◌<◌, length}
use Rattle.types.specs.Value.{ticks_of}
use Rattle.rules.specs.Base.{none}
use Rattle.state.specs.Numbers.{number_of}
use Rattle.state.specs.declared.Header.{Header}
use Rattle.state.specs.declared.Counters.{Counters}
use Rattle.plan_rules.specs.Host.{next}
use Rattle.plan_rules.specs.Run.{run}
use Rattle.plan_rules.specs.Listing.{end_line, last_number}
use Rattle.plan_text.specs.Appends.{Listed, Holds}
use Rattle.plan_round.specs.declared.Turn.{Turn}
use Rattle.plan_round.specs.Reached.{plan_of, Reached, ListedSoFar}

-- The run is over: what r says is where it came to.
pub record Ended (s : List ℕ) (r : Turn) (edges pending processes batch listing : List ℕ) : Type 0 where
  pub reached : Reached (plan_of s) r.calls r.head r.counters edges pending processes batch
  pub listed : ListedSoFar (plan_of s) r.calls listing r.at
  pub number : number_of r.answer ≡ last_number (run (plan_of s) r.calls).entries
  pub over : next (plan_of s) (run (plan_of s) r.calls).entries ≡ none

-- Whether the host has a next call: nothing was refused, and the run is open.
pub record GoesOn (t : Turn) (r : Bool) : Type 0 where
  pub yes_call : r ≡ true → (number_of t.answer ≡ 0) × (t.head.running ≡ true)
  pub refused : r ≡ false → (0 < number_of t.answer → ⊥) → t.head.running ≡ false

-- The last line behind the lines so far, whatever these are, and zeros behind it, where it fits.
abbrev pub EndsWith : ℕ → ℕ → Header → Counters → List ℕ → List ℕ → Bool → Type 0
EndsWith at number head counters old new r =
    (ls : List ℕ) → Listed old at ls → Holds (length old) (ls ++ end_line number (ticks_of head.gvt) counters.rounds counters.null_messages) new r
