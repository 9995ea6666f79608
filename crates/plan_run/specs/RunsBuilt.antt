-- The run of a plan that build accepted.
use Rattle.std.specs.Prelude.{◌≡◌, Bool, List, ℕ, ◌*◌, ◌≤◌, ◌<◌, length}
use Rattle.bits.specs.Bytes.{stream}
use Rattle.words.specs.Words.{zeroes}
use Rattle.rules.specs.State as R
use Rattle.rules.specs.Answers.{Accepted}
use Rattle.rules.specs.Build.{built, build}
use Rattle.state.specs.declared.Header.{Header}
use Rattle.state.specs.View.{view}
use Rattle.plan_file.specs.Plan.{Plan}
use Rattle.plan_file.specs.Grammar.{message}
use Rattle.plan_file.specs.Standing.{Standing}
use Rattle.plan_file.specs.Events.{emission_count}
use Rattle.plan_rules.specs.Setup.{setup_of}
use Rattle.plan_rules.specs.Run.{enough, ran}
use Rattle.plan_rules.specs.Listing.{listing}
use Rattle.plan_text.specs.Appends.{Holds}
use Rattle.plan_replies.specs.Table.{Table}
use Rattle.plan_round.specs.Reached.{plan_of}

-- The header, the edges and the processes are what build made of the plan.
pub record Built (p : Plan) (h : Header) (edges processes : List ℕ) : Type 0 where
  pub accepted : (build (setup_of p) R.zeros).answer ≡ Accepted
  pub state : built (setup_of p) ≡ view h edges (zeroes 4096) processes (zeroes 512)
  pub edge_words : length edges ≡ 3072
  pub process_words : length processes ≡ 256

-- So many initial events stand at the bit `at`.
pub record InitialAt (s : List ℕ) (at count : ℕ) : Type 0 where
  pub short : length s ≤ 16384
  pub standing : Standing message (stream s) at (plan_of s).initial
  pub counted : count ≡ length (plan_of s).initial
  pub countable : length (plan_of s).initial < 1024

-- The table of the replies, room for all of their emissions, and few enough calls to be counted.
pub record Repliable (s table : List ℕ) : Type 0 where
  pub leads : Table (stream s) (plan_of s).replies (plan_of s).replies 0 table
  pub room : 8 * emission_count (plan_of s).replies ≤ 7208
  pub countable : enough (plan_of s) ≤ 4294967295

-- The slice holds the listing of the whole run and zeros behind it, or zeros where that does not fit.
abbrev pub RunsBuilt : List ℕ → List ℕ → List ℕ → Bool → Type 0
RunsBuilt s old new r = Holds (length old) (listing (ran (plan_of s))) new r
