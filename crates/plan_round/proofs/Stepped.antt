-- What a step gives: a batch to reply to, or the turn's end.
use mathlib.Core.Path.{◌≡◌, refl, sym, ap, subst, ◌∙◌}
use mathlib.Core.Bool.{false}
use mathlib.Core.List.{List, [], ◌∷◌}
use Prim.Native.Nat.{ℕ, ◌+◌, ◌≤◌, ◌<◌}
use native.Mathlib.Omega.{arith}
use lib.ListN.{length}
use Rattle.bits.specs.Bytes.{stream}
use Rattle.rules.specs.Base.{some, non_empty}
use Rattle.rules.specs.State as R
use Rattle.rules.specs.State.{State}
use Rattle.rules.specs.Answers.{number}
use Rattle.rules.specs.Rows.{Out, out}
use Rattle.rules.specs.HandBack.{Emission}
use Rattle.rules.specs.Calls.{Step, HandBack, rule}
use Rattle.rules.specs.History.{entry, commits}
use Rattle.records.specs.Records.{events_of}
use Rattle.state.specs.declared.Header.{Header}
use Rattle.state.specs.declared.Counters.{Counters}
use Rattle.state.specs.declared.CoreResult.{CoreResult}
use Rattle.state.specs.View.{view, counters_of, answer_of}
use Rattle.state.specs.Numbers.{number_of}
use Rattle.state.proofs.Numbering.{numbered}
use Rattle.state.proofs.Facts.{some_events, no_events}
use Rattle.step.specs.Steps.{Steps}
use Rattle.plan_file.specs.Plan.{Plan, Reply}
use Rattle.plan_rules.specs.Host.{due, left, next}
use Rattle.plan_rules.specs.Run.{run}
use Rattle.plan_rules.specs.Listing.{handled_lines}
use Rattle.plan_rules.proofs.Runs.{runs}
use Rattle.plan_rules.proofs.Replies.{left_same}
use Rattle.plan_rules.proofs.Loop.{lines_same, commits_step}
use Rattle.plan_text.specs.Appends.{Listed}
use Rattle.plan_replies.specs.Table.{Table}
use Rattle.plan_round.specs.Reached.{plan_of, Reached, Replying, ListedSoFar, Stepping, Holding}
use Rattle.plan_round.specs.Turns.{Turns}
use Rattle.plan_round.proofs.Follows.{AfterStep, after_step}
use Rattle.plan_round.proofs.Onward.{empty_none, reached_next, entries_next, number_next}

-- A step without a batch, and one with.
module _ (s : List ℕ) (k : ℕ) (h : Header) (c : Counters) (E Q Z B t y l : List ℕ) (at : ℕ) (i : Stepping s k h c E Q Z B t y l at) (r : CoreResult) (E' Q' Z' B' : List ℕ)
    (e : length E' ≡ length E) (q : length Q' ≡ length Q) (z : length Z' ≡ length Z) (b : length B' ≡ length B) (g : Steps h c E Q Z B r E' Q' Z' B') where
  abbrev p : Plan
  p = plan_of s

  gives : out (answer_of (events_of r.head.batch B') r.answer) (view r.head E' Q' Z' B') (counters_of r.counters) ≡ rule (view h E Q Z B) (counters_of c) Step
  unfolding rule
  gives = g.gives

  stepped : Reached p (k + 1) r.head r.counters E' Q' Z' B'
  stepped = reached_next p k h c E Q Z B i.reached Step i.next_is r E' Q' Z' B' gives e q z b

  entries_are : (run p (k + 1)).entries ≡ entry (run p k).now Step (rule (view h E Q Z B) (counters_of c) Step) ∷ (run p k).entries
  entries_are = entries_next p k h c E Q Z B i.reached Step i.next_is r E' Q' Z' B' gives

  abbrev given_step : Out
  given_step = rule (view h E Q Z B) (counters_of c) Step

  idle : (view h E Q Z B).batch ≡ []
  idle = ap (λ (x : State). x.batch) (sym i.reached.state) ∙ (((runs p R.zeros i.reached.accepted).ready k).stepping i.next_is).1

  follows : AfterStep p (run p k).entries (entry (run p k).now Step given_step).raises given_step
  unfolding rule
  follows = after_step p (run p k).entries _ (view h E Q Z B) (counters_of c) i.reached.lent.passes idle

  batch_is : given_step.after.batch ≡ events_of r.head.batch B'
  batch_is = ap (λ (o : Out). o.after.batch) (sym gives)

  nothing_commits : commits (entry (run p k).now Step given_step) ≡ false
  nothing_commits = commits_step (entry (run p k).now Step given_step) refl

  left_is : left p (run p (k + 1)).entries ≡ left p (run p k).entries
  left_is = ap (left p) entries_are ∙ left_same p _ (run p k).entries nothing_commits

  lines_are : handled_lines (run p (k + 1)).entries ≡ handled_lines (run p k).entries
  lines_are = ap handled_lines entries_are ∙ lines_same _ (run p k).entries nothing_commits

  still_replying : Replying s (k + 1) t y
  still_replying = record {
    short = i.replying.short;
    leads = subst (λ (x : List Reply). Table (stream s) p.replies x 0 t) (sym left_is) i.replying.leads;
    room = i.replying.room;
    countable = i.replying.countable;
  }

  still_listed : ListedSoFar p (k + 1) l at
  still_listed = subst (Listed l at) (sym lines_are) i.listed

  pub holding : 0 < r.head.batch → Holding s (k + 1) r.head r.counters E' Q' Z' B' t y l at
  holding more =
      let f = (follows.hands (ap non_empty batch_is ∙ some_events _ 0 r.head.batch more)).0 in
      let d : due (left p (run p k).entries) given_step.after.batch ≡ due (left p (run p (k + 1)).entries) (run p (k + 1)).now.batch
      = λ j. due (sym left_is j) ((batch_is ∙ ap (λ (x : State). x.batch) (sym stepped.state)) j) in
      record {
        reached = stepped;
        next_is = ap (next p) entries_are ∙ f ∙ ap (λ (xs : List Emission). some (HandBack 0 xs)) d;
        replying = still_replying;
        listed = still_listed;
      }

  pub turned_step : r.head.batch ≤ 0 → Turns s k (record { head = r.head; counters = r.counters; answer = r.answer; at = at; calls = k + 1 }) E' Q' Z' B' t y l
  turned_step none_left =
      let m : ℕ = number_of r.answer in
      let empty : non_empty given_step.after.batch ≡ false = ap non_empty (batch_is ∙ no_events _ 0 r.head.batch none_left) ∙ empty_none in
      let is : m ≡ number given_step.answer = numbered (events_of r.head.batch B') r.answer given_step.answer (ap (λ (o : Out). o.answer) gives) in
      let open_is : given_step.after.running ≡ r.head.running = ap (λ (o : Out). o.after.running) (sym gives) in
      record {
        later = omega arith;
        came = record {
          reached = stepped;
          listed = still_listed;
          number = number_next p k h c E Q Z B i.reached Step i.next_is r E' Q' Z' B' gives m refl;
          goes = λ n u. record { reached = stepped; next_is = ap (next p) entries_are ∙ follows.goes empty (sym is ∙ n) (open_is ∙ u); replying = still_replying; listed = still_listed };
          stops = λ n. ap (next p) entries_are ∙ follows.stops empty (rw is at n);
          closes = λ u. ap (next p) entries_are ∙ follows.closes empty (open_is ∙ u);
        };
      }
