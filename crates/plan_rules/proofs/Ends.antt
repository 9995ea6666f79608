-- The run of a plan ends.
use mathlib.Core.Path.{◌≡◌, refl, ap, ◌∙◌}
use mathlib.Core.Bool.{true}
use mathlib.Core.List.{List, [], ◌∷◌}
use Prim.Native.Nat.{ℕ, zero, suc, ◌+◌, ◌*◌, ◌/◌, ◌≤◌, ◌<◌}
use native.Mathlib.Omega.{arith}
use native.Mathlib.Nat.{le-div_iff_mul-le, div-mul-le_self}
use lib.Dec.{leb}
use lib.ListN.{length}
use borrow.Author.Tests.{leb-true, leb-false}
use Rattle.rules.specs.Base.{Maybe, none, some}
use Rattle.rules.specs.State.{Counters}
use Rattle.rules.specs.Answers.{Answer, Accepted, Batch, Advanced, Finished, Committed, Read, Planned, Refused}
use Rattle.rules.specs.Build.{Setup, built, build}
use Rattle.rules.specs.Calls.{Call}
use Rattle.rules.specs.History
use Rattle.rules.specs.History.{Entry, History, empty_history, run_calls, R, H, initials, in_hand, emitted, rounds, adds, commits}
use Rattle.rules.proofs.Tests.{by_bool}
use Rattle.rules.proofs.Demand.{Sound, sound, sound_built, demanded}
use Rattle.rules.proofs.Counts.{unhandled, handles, no_initial, one_initial}
use Rattle.plan_file.specs.Plan.{Plan}
use Rattle.plan_rules.specs.Setup.{setup_of, least_lookahead_of}
use Rattle.plan_rules.specs.Host.{after, next}
use Rattle.plan_file.specs.Events.{event_count}
use Rattle.plan_rules.specs.Run.{carried, move, run, enough, ran}
use Rattle.plan_rules.specs.Ends.{final, closes, Ends}
use Rattle.plan_rules.proofs.Fit.{extra, extra_of, begun_most, fit_none}
use Rattle.plan_rules.proofs.Moves.{Good, phase_built, still_healthy, goes}

-- What is kept along the run.
pub good_run : (p : Plan) (k : ℕ) → Good p (run p k)
unfolding run built
good_run p zero = record { fit = fit_none p; phase = phase_built p (built (setup_of p)) (record { opened = refl; idle = refl; first_run = refl; empty = refl; healthy = refl }) }
good_run p (suc k) = goes p (run p k) (good_run p k)

sound_carried : (a : Setup) (y : History) (m : Maybe Call) → Sound a y → Sound a (carried y m)
unfolding carried run_calls
sound_carried a y none i = i
sound_carried a y (some k) i = sound a y (k ∷ []) i

pub sound_run : (p : Plan) → Sound (setup_of p) (empty_history (setup_of p)) → (k : ℕ) → Sound (setup_of p) (run p k)
unfolding run move
sound_run p i zero = i
sound_run p i (suc k) = sound_carried (setup_of p) (run p k) (next p (run p k).entries) (sound_run p i k)

-- As long as the host goes on, every allowed call was made.
lasts : (p : Plan) (k : ℕ) (c : Call) → next p (run p k).entries ≡ some c → length (run p k).entries ≡ k
unfolding run move carried
lasts p zero c h = refl
lasts p (suc k) c h = go (next p (run p k).entries) refl h (lasts p k)
  where
    go : (m : Maybe Call) → next p (run p k).entries ≡ m → next p (carried (run p k) m).entries ≡ some c → ((d : Call) → next p (run p k).entries ≡ some d → length (run p k).entries ≡ k) → length (carried (run p k) m).entries ≡ suc k
    go none e h ih = let z : ◌≡◌ {A = ℕ} 0 1 = cc in absurd (omega arith)
    go (some d) e h ih = ap suc (ih d e)

-- What the host's next call says of the last answer.
extra_after : (p : Plan) (es : List Entry) (k : Call) (a : Answer) (c : Call) → after p es k a ≡ some c → extra a ≤ 1
unfolding after extra
extra_after p es k Accepted c h = omega arith
extra_after p es k (Batch bs g) c h = omega arith
extra_after p es k (Advanced g) c h = omega arith
extra_after p es k (Finished g) c h = let z : ◌≡◌ {A = ℕ} 0 1 = cc in absurd (omega arith)
extra_after p es k (Committed g) c h = omega arith
extra_after p es k (Read r) c h = let z : ◌≡◌ {A = ℕ} 0 1 = cc in absurd (omega arith)
extra_after p es k (Planned j) c h = let z : ◌≡◌ {A = ℕ} 0 1 = cc in absurd (omega arith)
extra_after p es k (Refused r) c h = let z : ◌≡◌ {A = ℕ} 0 1 = cc in absurd (omega arith)

pub extra_next : (p : Plan) (es : List Entry) (c : Call) → next p es ≡ some c → extra_of es ≤ 1
unfolding next extra_of
extra_next p [] c h = omega arith
extra_next p (e ∷ es) c h = extra_after p (e ∷ es) e.call e.answer c h

final_after : (p : Plan) (es : List Entry) (k : Call) (a : Answer) → after p es k a ≡ none → extra a ≤ 2 → final a ≡ true
unfolding after extra final
final_after p es k Accepted h l = let z : ◌≡◌ {A = ℕ} 0 1 = cc in absurd (omega arith)
final_after p es k (Batch bs g) h l = let z : ◌≡◌ {A = ℕ} 0 1 = cc in absurd (omega arith)
final_after p es k (Advanced g) h l = let z : ◌≡◌ {A = ℕ} 0 1 = cc in absurd (omega arith)
final_after p es k (Finished g) h l = refl
final_after p es k (Committed g) h l = let z : ◌≡◌ {A = ℕ} 0 1 = cc in absurd (omega arith)
final_after p es k (Read r) h l = absurd (omega arith)
final_after p es k (Planned j) h l = absurd (omega arith)
final_after p es k (Refused r) h l = refl

final_next : (p : Plan) (es : List Entry) → next p es ≡ none → extra_of es ≤ 2 → closes es ≡ true
unfolding next extra_of closes
final_next p [] h l = let z : ◌≡◌ {A = ℕ} 0 1 = cc in absurd (omega arith)
final_next p (e ∷ es) h l = final_after p (e ∷ es) e.call e.answer h l

-- Rounds are few.
div_le : (a b d : ℕ) → 0 < d → a ≤ b → a / d ≤ b / d
div_le a b d l h = (le-div_iff_mul-le l).1 (let m : a / d * d ≤ a = div-mul-le_self a d in omega arith)

more_initials : (e : Entry) (es : List Entry) → initials es ≤ initials (e ∷ es)
more_initials e es = by_bool (adds e) (λ t. omega (arith, one_initial e es t)) (λ t. omega (arith, no_initial e es t))

module _ (p : Plan) (i : Sound (setup_of p) (empty_history (setup_of p))) where
  pub positive : 0 < least_lookahead_of p
  unfolding setup_of
  positive = i.least

  -- Handled events were initial events or emissions: also where the last batch was lost.
  handled_within : (k : ℕ) → History.handled (run p k).entries ≤ initials (run p k).entries + emitted (run p k).entries
  unfolding run move carried
  handled_within zero = unfold History.handled in (omega arith)
  handled_within (suc k) = go (next p (run p k).entries) refl (handled_within k)
    where
      one : (e : Entry) (es : List Entry) → History.handled es + length (in_hand es) ≤ initials es + emitted es → History.handled es ≤ initials es + emitted es → History.handled (e ∷ es) ≤ initials (e ∷ es) + emitted (e ∷ es)
      one e es h j = by_bool (commits e) (λ t. let u = handles e es t in omega (arith, u.handled, u.emitted, more_initials e es)) (λ t. let u = unhandled e es t in omega (arith, u.handled, u.emitted, more_initials e es))

      go : (m : Maybe Call) → next p (run p k).entries ≡ m → History.handled (run p k).entries ≤ initials (run p k).entries + emitted (run p k).entries → History.handled (carried (run p k) m).entries ≤ initials (carried (run p k) m).entries + emitted (carried (run p k) m).entries
      go none e h = h
      go (some c) e h = one _ (run p k).entries (omega (arith, (demanded (setup_of p) (run p k) (sound_run p i k)).conserved (still_healthy p (run p k) (good_run p k) (extra_next p (run p k).entries c e)))) h

  pub handled_few : (k : ℕ) → History.handled (run p k).entries ≤ event_count p
  unfolding event_count
  handled_few k = let g = (good_run p k).fit in omega (arith, handled_within k, g.few, g.replies)

  pub floor_few : (k : ℕ) → H (run p k).entries / least_lookahead_of p ≤ suc p.horizon / least_lookahead_of p
  floor_few k = div_le (H (run p k).entries) (suc p.horizon) (least_lookahead_of p) positive (good_run p k).fit.horizon

  pub begins_few : (k : ℕ) → R (run p k).entries ≤ 1
  begins_few k = omega (arith, (good_run p k).fit.once, begun_most (run p k).entries)

  pub rounds_few : (k : ℕ) → rounds (run p k).entries ≤ event_count p + suc p.horizon / least_lookahead_of p + 2
  unfolding setup_of
  rounds_few k = omega (arith, (demanded (setup_of p) (run p k) (sound_run p i k)).few_rounds, floor_few k, begins_few k, handled_few k)

length_few : (p : Plan) → Sound (setup_of p) (empty_history (setup_of p)) → (k : ℕ) → extra_of (run p k).entries ≤ 1 → length (run p k).entries < enough p
unfolding enough
length_few p i k x = let g = (good_run p k).fit in omega (arith, g.paced, g.few, begins_few p i k, rounds_few p i k)

pub short_run : (p : Plan) → Sound (setup_of p) (empty_history (setup_of p)) → (k : ℕ) (c : Call) → next p (run p k).entries ≡ some c → k < enough p
short_run p i k c e = omega (arith, lasts p k c e, length_few p i k (extra_next p (run p k).entries c e))

over : (p : Plan) → Sound (setup_of p) (empty_history (setup_of p)) → next p (ran p).entries ≡ none
unfolding ran
over p i = go (next p (run p (enough p)).entries) refl
  where
    go : (m : Maybe Call) → next p (run p (enough p)).entries ≡ m → next p (run p (enough p)).entries ≡ none
    go none e = e
    go (some c) e = absurd (omega (arith, short_run p i (enough p) c e))

-- Once the host is done, more changes nothing.
pub stays : (p : Plan) (n : ℕ) → next p (run p n).entries ≡ none → (k : ℕ) → n ≤ k → run p k ≡ run p n
unfolding run move carried
stays p n o zero l = let e : 0 ≡ n = omega arith in ap (run p) e
stays p n o (suc k) l =
    by_bool (leb n k)
    (λ t. ap (move p) (stays p n o k (leb-true n k t)) ∙ ap (carried (run p n)) o)
    (λ t. let f = leb-false n k t in let e : suc k ≡ n = omega arith in ap (run p) e)

lengths : (p : Plan) (k : ℕ) → length (run p k).entries ≤ k
unfolding run move carried
lengths p zero = omega arith
lengths p (suc k) = go (next p (run p k).entries) (lengths p k)
  where
    go : (m : Maybe Call) → length (run p k).entries ≤ k → length (carried (run p k) m).entries ≤ suc k
    go none h = omega arith
    go (some c) h = omega arith

pub ends : (p : Plan) (c : Counters) → (build (setup_of p) c).answer ≡ Accepted → Ends p
unfolding ran
ends p c b =
    let i = sound_built (setup_of p) c b in
    let o : next p (run p (enough p)).entries ≡ none = over p i in
    record {
      by = final_next p (run p (enough p)).entries o (good_run p (enough p)).fit.known;
      over = o;
      same = λ k l. stays p (enough p) o k l;
      few = lengths p (enough p);
      short = short_run p i;
    }
