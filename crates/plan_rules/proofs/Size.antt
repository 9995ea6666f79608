-- How long a listing can get.
use mathlib.Core.Path.{◌≡◌}
use mathlib.Core.List.{List, [], ◌∷◌}
use Prim.Native.Nat.{ℕ, zero, suc, ◌+◌, ◌*◌, ◌/◌, ◌^◌, ◌≤◌, ◌<◌}
use native.Mathlib.Omega.{arith}
use native.Mathlib.Nat.{mul-le-mul}
use lib.ListN.{length, length-append}
use borrow.Author.Tests.{ltb-false}
use Rattle.rules.specs.Base.{if◌then◌otherwise◌, Maybe, none, some}
use Rattle.rules.specs.State.{Event, Counters}
use Rattle.rules.specs.Answers.{Answer, Accepted, Batch, Advanced, Finished, Committed, Read, Planned, Refused, number}
use Rattle.rules.specs.Build.{build}
use Rattle.rules.specs.Calls.{Call}
use Rattle.rules.specs.History
use Rattle.rules.specs.History.{Entry, History, empty_history, R, H, E, in_hand, commits, rounds, null_message_count}
use Rattle.rules.proofs.Tests.{by_bool}
use Rattle.rules.proofs.Lists.{All}
use Rattle.rules.proofs.Counts.{unhandled, handles}
use Rattle.rules.proofs.Shape.{Known}
use Rattle.rules.proofs.Demand.{Sound, sound_built, demanded}
use Rattle.plan_file.specs.Plan.{Plan}
use Rattle.plan_rules.specs.Setup.{setup_of, least_lookahead_of, too_long}
use Rattle.plan_rules.specs.Host.{next}
use Rattle.plan_file.specs.Events.{event_count}
use Rattle.plan_rules.specs.Run.{carried, move, run, enough, ran}
use Rattle.plan_rules.specs.Text.{decimal}
use Rattle.plan_rules.specs.Listing.{event_line, event_lines, handled_lines, end_line, last_number, listing}
use Rattle.plan_rules.specs.Size.{Fits}
use Rattle.plan_rules.proofs.RefusalNumbers.{numbered}
use Rattle.plan_rules.proofs.Limits.{one_more}
use Rattle.plan_rules.proofs.Texts.{length_digits, length_hexadecimal}
use Rattle.plan_rules.proofs.Ends.{sound_run, positive, handled_few, floor_few, begins_few, rounds_few}

short_decimal : (d n : ℕ) → n < 10 ^ suc d → length (decimal n) ≤ suc d
unfolding decimal
short_decimal d n h = length_digits d n n h

-- An event's line, of a process and a source below 64.
short_line : (e : Event) → e.destination < 64 → e.source < 64 → length (event_line e) ≤ 39
unfolding event_line
short_line e a b = simp (length-append, length_hexadecimal) (omega (arith, short_decimal 1 e.destination (omega arith), short_decimal 1 e.source (omega arith)))

short_lines : (n : ℕ) → n ≤ 64 → (es : List Event) → All (Known n) es → length (event_lines es) ≤ 39 * length es
unfolding event_lines
short_lines n h [] i = omega arith
short_lines n h (e ∷ es) i = rw (length-append (event_line e) (event_lines es)) (omega (arith, short_line e (omega (arith, i.0.destination)) (omega (arith, i.0.source)), short_lines n h es i.1))

-- Of all that was handled.
one_more_batch : (e : Entry) (es : List Entry) → length (event_lines (in_hand es)) ≤ 39 * length (in_hand es) → length (handled_lines es) ≤ 39 * History.handled es → length (handled_lines (e ∷ es)) ≤ 39 * History.handled (e ∷ es)
unfolding handled_lines if◌then◌otherwise◌
one_more_batch e es h j =
    by_bool (commits e)
    (λ t. let u = handles e es t in rw (t, length-append) (omega (arith, u.handled)))
    (λ t. let u = unhandled e es t in rw (t, length-append) (omega (arith, u.handled)))

-- The last line.
pub short_end : (k g r n : ℕ) → k < 100 → r < 100000 → n < 100000000 → length (end_line k g r n) ≤ 55
unfolding end_line
short_end k g r n a b c = simp (length-append, length_hexadecimal) (omega (arith, short_decimal 1 k a, short_decimal 4 r b, short_decimal 7 n c))

small_number : (a : Answer) → number a < 100
unfolding number
small_number Accepted = omega arith
small_number (Batch es g) = omega arith
small_number (Advanced g) = omega arith
small_number (Finished g) = omega arith
small_number (Committed g) = omega arith
small_number (Read r) = omega arith
small_number (Planned k) = omega arith
small_number (Refused r) = (numbered r).small

small_last : (es : List Entry) → last_number es < 100
unfolding last_number
small_last [] = omega arith
small_last (e ∷ es) = small_number e.answer

module _ (p : Plan) (i : Sound (setup_of p) (empty_history (setup_of p))) where
  lines_few : (k : ℕ) → length (handled_lines (run p k).entries) ≤ 39 * History.handled (run p k).entries
  unfolding run move carried
  lines_few zero = unfold handled_lines in (omega arith)
  lines_few (suc k) = go (next p (run p k).entries) (lines_few k)
    where
      go : (m : Maybe Call) → length (handled_lines (run p k).entries) ≤ 39 * History.handled (run p k).entries → length (handled_lines (carried (run p k) m).entries) ≤ 39 * History.handled (carried (run p k) m).entries
      go none h = h
      go (some c) h =
          let s = sound_run p i k in
          one_more_batch _ (run p k).entries (rw s.tallied.kept.hand (short_lines (run p k).now.n s.shaped.sized.few (run p k).now.batch s.shaped.held.known)) h

  null_messages_few : (k : ℕ) → suc p.horizon / least_lookahead_of p ≤ 65537 → null_message_count (run p k).entries ≤ 512 * 65538
  unfolding setup_of
  null_messages_few k h =
      let s = sound_run p i k in
      let a : E (setup_of p) ≤ 512 = omega (arith, s.fixed.edges, s.shaped.wired.few) in
      let b : H (run p k).entries / least_lookahead_of p + R (run p k).entries ≤ 65538 = omega (arith, floor_few p i k, begins_few p i k) in
      omega (arith, (demanded (setup_of p) (run p k) s).few_null_messages, mul-le-mul a b)

  listing_fits : (k : ℕ) → suc p.horizon / least_lookahead_of p ≤ 65537 → event_count p ≤ 901 → length (listing (run p k)) ≤ 39 * event_count p + 55
  unfolding listing
  listing_fits k h e =
      let y = run p k in
      let c = (sound_run p i k).tallied.counted in
      let z = short_end (last_number y.entries) y.now.gvt y.counters.rounds y.counters.null_messages (small_last y.entries) (omega (arith, c.rounds, rounds_few p i k)) (omega (arith, c.null_messages, null_messages_few k h)) in
      rw (length-append) (omega (arith, lines_few k, handled_few p i k))

pub size_fits : (p : Plan) (c : Counters) → (build (setup_of p) c).answer ≡ Accepted → Fits p
unfolding ran too_long
size_fits p c b =
    let i = sound_built (setup_of p) c b in
    record { fits = λ t e. listing_fits p i (enough p) (one_more p.horizon (least_lookahead_of p) (positive p i) (ltb-false 65536 (p.horizon / least_lookahead_of p) t)) e }
