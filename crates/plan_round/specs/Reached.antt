-- Where a plan's run has come to after k calls of its host.
use Rattle.std.specs.Prelude.{◌≡◌, List, [], ℕ, ◌*◌, ◌≤◌, length}
use Rattle.bits.specs.Bytes.{stream}
use Rattle.rules.specs.Base.{some}
use Rattle.rules.specs.State as R
use Rattle.rules.specs.Answers.{Accepted}
use Rattle.rules.specs.Build.{build}
use Rattle.rules.specs.Calls.{Step, HandBack}
use Rattle.state.specs.declared.Header.{Header}
use Rattle.state.specs.declared.Counters.{Counters}
use Rattle.state.specs.View.{view, counters_of}
use Rattle.state.specs.ValidArrays.{ValidArrays}
use Rattle.plan_file.specs.Plan.{Plan}
use Rattle.plan_file.specs.Events.{emission_count}
use Rattle.plan_file.specs.File.{Answer, refused, contents, decode}
use Rattle.plan_rules.specs.Setup.{setup_of}
use Rattle.plan_rules.specs.Host.{due, left, next}
use Rattle.plan_rules.specs.Run.{run, enough}
use Rattle.plan_rules.specs.Listing.{handled_lines}
use Rattle.plan_text.specs.Appends.{Listed}
use Rattle.plan_replies.specs.Table.{Table}

-- The contents of a file; a plan of nothing for a file that is refused.
abbrev pub contents_of_file : Answer → Plan
contents_of_file (refused k) = record { n = 0; lookahead = 0; horizon = 0; budget = 0; edges = []; initial = []; replies = [] }
contents_of_file (contents p) = p

unfoldable pub plan_of : List ℕ → Plan
plan_of s = contents_of_file (decode s)

-- The header, the counters and the arrays are those of the run after k calls.
pub record Reached (p : Plan) (k : ℕ) (h : Header) (c : Counters) (edges pending processes batch : List ℕ) : Type 0 where
  pub accepted : (build (setup_of p) R.zeros).answer ≡ Accepted
  pub state : (run p k).now ≡ view h edges pending processes batch
  pub counters : (run p k).counters ≡ counters_of c
  pub lent : ValidArrays h edges pending processes batch

-- The table leads to the replies that are left after k calls, and the reply has room for all of them; the calls can be counted.
pub record Replying (s : List ℕ) (k : ℕ) (table reply : List ℕ) : Type 0 where
  pub short : length s ≤ 16384
  pub leads : Table (stream s) (plan_of s).replies (left (plan_of s) (run (plan_of s) k).entries) 0 table
  pub room : 8 * emission_count (plan_of s).replies ≤ length reply
  pub countable : enough (plan_of s) ≤ 4294967295

-- The lines so far stand in the listing.
abbrev pub ListedSoFar : Plan → ℕ → List ℕ → ℕ → Type 0
ListedSoFar p k listing at = Listed listing at (handled_lines (run p k).entries)

-- Before a step.
pub record Stepping (s : List ℕ) (k : ℕ) (h : Header) (c : Counters) (edges pending processes batch table reply listing : List ℕ) (at : ℕ) : Type 0 where
  pub reached : Reached (plan_of s) k h c edges pending processes batch
  pub next_is : next (plan_of s) (run (plan_of s) k).entries ≡ some Step
  pub replying : Replying s k table reply
  pub listed : ListedSoFar (plan_of s) k listing at

-- With a batch in hand.
pub record Holding (s : List ℕ) (k : ℕ) (h : Header) (c : Counters) (edges pending processes batch table reply listing : List ℕ) (at : ℕ) : Type 0 where
  pub reached : Reached (plan_of s) k h c edges pending processes batch
  pub next_is : next (plan_of s) (run (plan_of s) k).entries ≡ some (HandBack 0 (due (left (plan_of s) (run (plan_of s) k).entries) (run (plan_of s) k).now.batch))
  pub replying : Replying s k table reply
  pub listed : ListedSoFar (plan_of s) k listing at
