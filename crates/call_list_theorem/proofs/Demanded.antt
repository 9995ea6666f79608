-- Demand 3 of the program, from its calls' contracts and the theorem of the rules.
use mathlib.Core.Path.{◌≡◌, refl, sym, ap, subst, ◌∙◌}
use mathlib.Core.List.{List, [], ◌∷◌, map}
use Rattle.rules.specs.State.{zeros}
use Rattle.rules.specs.Rows.{Out}
use Rattle.rules.specs.Answers.{Accepted}
use Rattle.rules.specs.Build.{Setup, built, build}
use Rattle.rules.specs.Calls.{execute}
use Rattle.rules.specs.History.{Entry, History, empty_history, append_call, run_calls}
use Rattle.rules.specs.Demand.{Demanded}
use Rattle.rules.proofs.Demand.{demand_3}
use Rattle.state.specs.declared.Runtime.{Runtime}
use Rattle.state.specs.declared.Counters.{Counters}
use Rattle.state.specs.View.{view_of, counters_of}
use Rattle.build.specs.Checks.{answer_of}
use Rattle.build.proofs.AnswerRows.{counters_accepted}
use Rattle.runtime.specs.declared.BuildResult.{BuildResult}
use Rattle.runtime.specs.Builds.{Builds}
use Rattle.call_list_theorem.specs.Links.{Link, Executed, state_left, counters_left, calls_of, out_of, recorded, history}
use Rattle.call_list_theorem.specs.Demand3.{Demand3OfProgram}

-- The program's answers, states and counters are those of the rules, fed with what came before the list and its calls.
same : (s : Runtime) (c : Counters) (ls : List Link) → Executed s c ls → map out_of ls ≡ execute (view_of s) (counters_of c) (calls_of ls)
unfolding execute
same s c [] i = refl
same s c (l ∷ ls) i =
    ap (λ os. out_of l ∷ os) (same l.state l.counters ls i.1)
    ∙ ap (λ (o : Out). o ∷ execute o.after o.counters (calls_of ls)) i.0.gives

abbrev before : Runtime → Counters → List Entry → History
before s c es = record { entries = es; now = view_of s; counters = counters_of c }

-- So the history of the list is the one that the rules tell.
same_history : (s : Runtime) (c : Counters) (es : List Entry) (ls : List Link) → Executed s c ls
    → run_calls (before s c es) (calls_of ls) ≡ record { entries = recorded (view_of s) es ls; now = view_of (state_left s ls); counters = counters_of (counters_left c ls) }
unfolding run_calls
same_history s c es [] i = refl
same_history s c es (l ∷ ls) i =
    ap (λ (o : Out). run_calls (append_call (before s c es) l.call o) (calls_of ls)) (sym i.0.gives)
    ∙ same_history l.state l.counters _ ls i.1

-- Of a build that is not refused.
module _ (a : Setup) (c : Counters) (r : BuildResult) (b : Builds a c r) (accepts : (build a (counters_of c)).answer ≡ Accepted) (ls : List Link) (i : Executed r.state r.counters ls) where
  counters_built : counters_of r.counters ≡ zeros
  counters_built = b.counted ∙ counters_accepted a (counters_of c) accepts

  starts : before r.state r.counters [] ≡ empty_history a
  starts = λ t. record { entries = []; now = b.made accepts t; counters = counters_built t }

  as_rules : map out_of ls ≡ execute (built a) zeros (calls_of ls)
  as_rules = same r.state r.counters ls i ∙ ap (λ (y : History). execute y.now y.counters (calls_of ls)) starts

  claims : Demanded a (history r ls)
  claims =
      subst
      (Demanded a)
      (ap (λ (y : History). run_calls y (calls_of ls)) (sym starts) ∙ same_history r.state r.counters [] ls i)
      (demand_3 a (counters_of c) accepts (calls_of ls))

-- The theorem.
pub demand_3_of_the_program : (a : Setup) (c : Counters) (r : BuildResult) → Builds a c r → answer_of r.answer ≡ Accepted
    → (ls : List Link) → Executed r.state r.counters ls → Demand3OfProgram a r ls
demand_3_of_the_program a c r b e ls i =
    let accepts = sym b.answered ∙ e in
    let d = claims a c r b accepts ls i in
    record { same_as_rules = as_rules a c r b accepts ls i; demanded = d; counters = d.counters; pending = d.pending; gvt = d.gvt; earliest = d.earliest }
