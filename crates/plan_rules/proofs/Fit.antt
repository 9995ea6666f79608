-- What every move of the host keeps: how many calls there were, against what they brought.
use mathlib.Core.Path.{◌≡◌, ap}
use mathlib.Core.Bool.{Bool, true, false}
use mathlib.Core.List.{List, [], ◌∷◌}
use Prim.Native.Nat.{ℕ, suc, ◌+◌, ◌*◌, ◌≤◌, ◌<◌}
use native.Mathlib.Omega.{arith}
use lib.ListN.{length}
use Rattle.rules.specs.Base.{if◌then◌otherwise◌, count}
use Rattle.rules.specs.Answers.{Answer, Accepted, Batch, Advanced, Finished, Committed, Read, Planned, Refused}
use Rattle.rules.specs.History.{Entry, is_initial, horizon, emissions, is_advanced, begins, adds, commits, R, H, initials, in_hand, emitted, rounds}
use Rattle.rules.proofs.Counts.{counts_off, counts_on, unhandled, handles, no_turn, commit_turn, advance_turn, no_initial, one_initial}
use Rattle.rules.proofs.Tally.{Quiet}
use Rattle.plan_file.specs.Plan.{Plan}
use Rattle.plan_rules.specs.Host.{due, left}
use Rattle.plan_file.specs.Events.{emission_count}
use Rattle.plan_rules.proofs.Replies.{size_spend, left_same, left_less}

-- Calls beyond those that initial events, begins and rounds account for: a batch in hand is one, and so is what ends a run, perhaps behind a batch. Reads and plans are no answers of a run.
unfoldable pub extra : Answer → ℕ
extra Accepted = 0
extra (Batch bs g) = 1
extra (Advanced g) = 0
extra (Finished g) = 2
extra (Committed g) = 0
extra (Read r) = 3
extra (Planned j) = 3
extra (Refused r) = 2

unfoldable pub extra_of : List Entry → ℕ
extra_of [] = 0
extra_of (e ∷ es) = extra e.answer

-- 0 as long as initial events are added.
unfoldable pub begun : List Entry → ℕ
begun [] = 0
begun (e ∷ es) = if is_initial e.call then 0 otherwise 1

pub begun_most : (es : List Entry) → begun es ≤ 1
unfolding begun if◌then◌otherwise◌
begun_most [] = omega arith
begun_most (e ∷ es) = go (is_initial e.call)
  where
    go : (t : Bool) → (if t then 0 otherwise 1) ≤ 1
    go true = omega arith
    go false = omega arith

pub record Fit (p : Plan) (es : List Entry) : Type 0 where
  pub known : extra_of es ≤ 2
  pub few : initials es ≤ length p.initial
  pub once : R es ≤ begun es
  pub horizon : H es ≤ suc p.horizon
  pub replies : emitted es + emission_count (left p es) ≡ emission_count p.replies
  pub paced : length es ≤ initials es + R es + 2 * rounds es + extra_of es

pub fit_none : (p : Plan) → Fit p []
unfolding extra_of begun initials R H emitted left rounds count
fit_none p = record { known = omega arith; few = omega arith; once = omega arith; horizon = omega arith; replies = omega arith; paced = omega arith }

r_same : (e : Entry) (es : List Entry) → begins e ≡ false → R (e ∷ es) ≡ R es
unfolding R
r_same e es b = counts_off begins e es b

r_more : (e : Entry) (es : List Entry) → begins e ≡ true → R (e ∷ es) ≡ R es + 1
unfolding R
r_more e es b = counts_on begins e es b

h_same : (e : Entry) (es : List Entry) → begins e ≡ false → H (e ∷ es) ≡ H es
unfolding H if◌then◌otherwise◌
h_same e es b = rw b

h_new : (e : Entry) (es : List Entry) → begins e ≡ true → H (e ∷ es) ≡ suc (horizon e.call)
unfolding H if◌then◌otherwise◌
h_new e es b = rw b

module _ (p : Plan) (e : Entry) (es : List Entry) (i : Fit p es) (k : extra_of (e ∷ es) ≤ 2) where
  -- A call that brought nothing.
  pub fit_quiet : Quiet e → R es ≤ begun (e ∷ es) → extra_of es + 1 ≤ extra_of (e ∷ es) → Fit p (e ∷ es)
  fit_quiet q b x =
      let u = unhandled e es q.no_commit in
      let t = no_turn e es q.no_commit q.no_advance in
      let r = r_same e es q.no_run in
      let n = no_initial e es q.no_event in
      record {
        known = k;
        few = omega (arith, n, i.few);
        once = omega (arith, r);
        horizon = omega (arith, h_same e es q.no_run, i.horizon);
        replies = omega (arith, u.emitted, ap emission_count (left_same p e es q.no_commit), i.replies);
        paced = omega (arith, i.paced, n, r, t.rounds);
      }

  -- An initial event.
  pub fit_add : adds e ≡ true → begins e ≡ false → commits e ≡ false → is_advanced e.answer ≡ false → initials es < length p.initial → R es ≤ begun (e ∷ es) → extra_of es ≡ 0 → Fit p (e ∷ es)
  fit_add a b c v l o z =
      let u = unhandled e es c in
      let t = no_turn e es c v in
      let r = r_same e es b in
      let n = one_initial e es a in
      record {
        known = k;
        few = omega (arith, n);
        once = omega (arith, r);
        horizon = omega (arith, h_same e es b, i.horizon);
        replies = omega (arith, u.emitted, ap emission_count (left_same p e es c), i.replies);
        paced = omega (arith, i.paced, n, r, t.rounds);
      }

  -- Begin.
  pub fit_begin : begins e ≡ true → adds e ≡ false → commits e ≡ false → is_advanced e.answer ≡ false → horizon e.call ≡ p.horizon → R es ≡ 0 → begun (e ∷ es) ≡ 1 → extra_of es ≡ 0 → Fit p (e ∷ es)
  fit_begin b a c v h o w z =
      let u = unhandled e es c in
      let t = no_turn e es c v in
      let r = r_more e es b in
      let n = no_initial e es a in
      record {
        known = k;
        few = omega (arith, n, i.few);
        once = omega (arith, r);
        horizon = omega (arith, h_new e es b);
        replies = omega (arith, u.emitted, ap emission_count (left_same p e es c), i.replies);
        paced = omega (arith, i.paced, n, r, t.rounds);
      }

  -- Advanced.
  pub fit_advance : is_advanced e.answer ≡ true → begins e ≡ false → adds e ≡ false → commits e ≡ false → R es ≤ begun (e ∷ es) → extra_of es ≡ 0 → Fit p (e ∷ es)
  fit_advance v b a c o z =
      let u = unhandled e es c in
      let t = advance_turn e es c v in
      let r = r_same e es b in
      let n = no_initial e es a in
      record {
        known = k;
        few = omega (arith, n, i.few);
        once = omega (arith, r);
        horizon = omega (arith, h_same e es b, i.horizon);
        replies = omega (arith, u.emitted, ap emission_count (left_same p e es c), i.replies);
        paced = omega (arith, i.paced, n, r, t.rounds);
      }

  -- A hand back that commits.
  pub fit_commit : commits e ≡ true → is_advanced e.answer ≡ false → begins e ≡ false → adds e ≡ false → R es ≤ begun (e ∷ es) → emissions e.call ≡ due (left p es) (in_hand es) → extra_of es ≡ 1 → Fit p (e ∷ es)
  fit_commit c v b a o d z =
      let u = handles e es c in
      let t = commit_turn e es c v in
      let r = r_same e es b in
      let n = no_initial e es a in
      record {
        known = k;
        few = omega (arith, n, i.few);
        once = omega (arith, r);
        horizon = omega (arith, h_same e es b, i.horizon);
        replies = omega (arith, u.emitted, ap length d, ap emission_count (left_less p e es c), size_spend (left p es) (in_hand es), i.replies);
        paced = omega (arith, i.paced, n, r, t.rounds);
      }
