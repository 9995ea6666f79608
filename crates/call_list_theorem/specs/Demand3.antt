-- Demand 3 of the program: document 01, "Demand 3 is one statement about the list of calls as a whole".
use Rattle.std.specs.Prelude.{◌≡◌, List, map, length}
use Rattle.rules.specs.State.{Event, zeros, max_tick}
use Rattle.rules.specs.Refresh.{least}
use Rattle.rules.specs.Answers.{Read, Gvt, Pending, Earliest}
use Rattle.rules.specs.Build.{Setup, built}
use Rattle.rules.specs.Reads.{read_gvt, read_counters, read_pending, read_earliest}
use Rattle.rules.specs.Calls.{execute}
use Rattle.rules.specs.Demand.{Demanded, counts}
use Rattle.state.specs.View.{view_of, counters_of}
use Rattle.runtime.specs.declared.BuildResult.{BuildResult}
use Rattle.call_list_theorem.specs.Links.{Link, state_left, counters_left, calls_of, out_of, history}

-- Of the setup a, what build gave for it, and a list of calls carried out on that.
pub record Demand3OfProgram (a : Setup) (r : BuildResult) (ls : List Link) : Type 0 where
  -- "The rules start from what build makes and are fed with the calls' other arguments, never with the program's state or counters."
  pub same_as_rules : map out_of ls ≡ execute (built a) zeros (calls_of ls)
  -- Every claim, each number counted on what the program answered and left; that no call is refused with 11 is among them.
  pub demanded : Demanded a (history r ls)
  -- The four reads after the list, a part of `demanded`, spelt with the program's last state; Theorem.antt says it of the reading functions. "The counters read after the list equal these counts, or 2^64 - 1 where one is larger."
  pub counters : (read_counters (view_of (state_left r.state ls)) (counters_of (counters_left r.counters ls))).answer ≡ Read (counts (history r ls).entries)
  -- "Pending is what its read answers then."
  pub pending : (read_pending (view_of (state_left r.state ls)) (counters_of (counters_left r.counters ls))).answer ≡ Read (Pending (length (view_of (state_left r.state ls)).pending))
  pub gvt : (read_gvt (view_of (state_left r.state ls)) (counters_of (counters_left r.counters ls))).answer ≡ Read (Gvt (view_of (state_left r.state ls)).gvt)
  pub earliest : (read_earliest (view_of (state_left r.state ls)) (counters_of (counters_left r.counters ls))).answer ≡ Read (Earliest (least max_tick (map (λ (e : Event). e.tick) (view_of (state_left r.state ls)).pending)))
