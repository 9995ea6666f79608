-- What code that runs a plan needs of the definitions, one call after the other. Entries are given by equations of their call and answer, as contracts give them.
use mathlib.Core.Path.{◌≡◌, refl, sym, ap, ◌∙◌}
use mathlib.Core.Bool.{true, false}
use mathlib.Core.List.{List, [], ◌∷◌, ◌++◌, append-nil}
use Prim.Native.Nat.{ℕ, zero, suc, ◌+◌, ◌*◌, ◌-◌, ◌≤◌, ◌<◌}
use native.Mathlib.Omega.{arith}
use native.Mathlib.Nat.{add-zero, add-suc}
use lib.Dec.{leb}
use lib.ListN.{length, length-append, get_or, drop, drop_of_length-le}
use lib.Seq.{drop-cons}
use borrow.Author.Tests.{leb-true, leb-false, ne_eqb}
use Rattle.rules.specs.Base.{if◌then◌otherwise◌, Maybe, none, some}
use Rattle.rules.specs.State.{Message, Event, Counters}
use Rattle.rules.specs.Answers.{Accepted, Batch, Advanced, Finished, Committed, Refused, Refusal, refusal_number, number}
use Rattle.rules.specs.Build.{build}
use Rattle.rules.specs.HandBack.{Emission}
use Rattle.rules.specs.Calls.{Call, AddInitial, Begin, Step, HandBack, rule}
use Rattle.rules.specs.History.{Entry, append_call, is_initial, is_hand_back, refused, is_committed, initials, in_hand, commits, events_at}
use Rattle.rules.proofs.Tests.{by_bool, and_off}
use Rattle.rules.proofs.Counts.{one_initial, hand_batch}
use Rattle.rules.proofs.Demand.{sound_built}
use Rattle.plan_file.specs.Plan.{Reply, Plan}
use Rattle.plan_rules.specs.Setup.{setup_of, least_lookahead_of, too_long}
use Rattle.plan_rules.specs.Host.{reply_of, without, spend, due, left, or_begin, opening, after, next}
use Rattle.plan_rules.specs.Run.{carried, move, run, enough, ran}
use Rattle.plan_rules.specs.Listing.{event_lines, handled_lines, listing}
use Rattle.plan_rules.specs.Ends.{Ends}
use Rattle.plan_rules.specs.Laws.{replies_by, handled_by}
use Rattle.plan_rules.proofs.Replies.{left_same, left_less}
use Rattle.plan_rules.proofs.Ends.{sound_run, positive, stays}
use Rattle.plan_rules.proofs.Limits.{limits}
use Rattle.plan_rules.proofs.Kth.{first_is, without_own, without_other, spent}

-- The run
module _ (p : Plan) where
  -- One call more.
  pub run_next : (k : ℕ) (c : Call) → next p (run p k).entries ≡ some c → run p (suc k) ≡ append_call (run p k) c (rule (run p k).now (run p k).counters c)
  unfolding run move carried
  run_next k c h = rw h

  -- The host has no next call: that was the whole run.
  pub run_over : Ends p → (k : ℕ) → next p (run p k).entries ≡ none → run p k ≡ ran p
  unfolding ran
  run_over i k h =
      by_bool (leb k (enough p))
      (λ t. sym (stays p k h (enough p) (leb-true k (enough p) t)))
      (λ t. let f = leb-false k (enough p) t in i.same k (omega arith))

  -- What is in hand by the calls and answers is the state's batch.
  pub run_hand : (c : Counters) → (build (setup_of p) c).answer ≡ Accepted → (k : ℕ) → in_hand (run p k).entries ≡ (run p k).now.batch
  run_hand c b k = (sound_run p (sound_built (setup_of p) c b) k).tallied.kept.hand

  -- 39 after an accepted build, without a division.
  pub run_limit : (c : Counters) → (build (setup_of p) c).answer ≡ Accepted → too_long p ≡ leb (65537 * least_lookahead_of p) p.horizon
  run_limit c b = (limits p (positive p (sound_built (setup_of p) c b))).no_division

  -- Lines that do not fit now never will: the listing only grows.
  lines_grow : (k : ℕ) (m : Maybe Call) → length (handled_lines (run p k).entries) ≤ length (handled_lines (carried (run p k) m).entries)
  unfolding carried handled_lines
  lines_grow k none = omega arith
  lines_grow k (some c) = rw length-append (omega arith)

  lines_later : (k n : ℕ) → length (handled_lines (run p k).entries) ≤ length (handled_lines (run p (k + n)).entries)
  unfolding run move
  lines_later k zero = rw add-zero (omega arith)
  lines_later k (suc n) = rw add-suc (omega (arith, lines_later k n, lines_grow (k + n) (next p (run p (k + n)).entries)))

  pub run_lines : Ends p → (k : ℕ) → length (handled_lines (run p k).entries) ≤ length (listing (ran p))
  unfolding listing ran
  run_lines i k =
      by_bool (leb k (enough p))
      (λ t.
      let h = leb-true k (enough p) t in
      let e : k + (enough p - k) ≡ enough p = omega arith in
      let l : length (handled_lines (run p k).entries) ≤ length (handled_lines (run p (enough p)).entries) = rw e at (lines_later k (enough p - k)) in
      rw length-append (omega arith))
      (λ t. let f = leb-false k (enough p) t in rw (i.same k (omega arith), length-append) (omega arith))

-- Which entries commit.
pub commits_other : (e : Entry) → is_hand_back e.call ≡ false → commits e ≡ false
commits_other e h = and_off (is_hand_back e.call) _ h

module _ (e : Entry) (mask : ℕ) (xs : List Emission) (h : e.call ≡ HandBack mask xs) where
  pub commits_committed : (g : ℕ) → e.answer ≡ Committed g → commits e ≡ true
  unfolding is_hand_back is_committed
  commits_committed g a = rw (h, a)

  pub commits_spent : (r : Refusal) → e.answer ≡ Refused r → refusal_number r ≡ 24 → commits e ≡ true
  unfolding is_hand_back is_committed number
  commits_spent r a n = rw (h, a, n)

  pub commits_refused : (r : Refusal) → e.answer ≡ Refused r → (refusal_number r ≡ 24 → ⊥) → commits e ≡ false
  unfolding is_hand_back is_committed number
  commits_refused r a n = rw (h, a) (ne_eqb (refusal_number r) 24 n)

pub commits_step : (e : Entry) → e.call ≡ Step → commits e ≡ false
unfolding is_hand_back
commits_step e h = commits_other e (rw h)

-- What the host calls next.
module _ (p : Plan) where
  -- The initial events in turn, then begin: i of them are accepted.
  pub opening_adds : (es : List Entry) (i : ℕ) (m : Message) → initials es ≡ i → i < length p.initial → opening p es ≡ AddInitial (get_or p.initial i m)
  unfolding opening or_begin
  opening_adds es i m a h = rw (a, drop-cons p.initial i m h)

  pub opening_begins : (es : List Entry) → length p.initial ≤ initials es → opening p es ≡ Begin p.horizon p.budget
  unfolding opening or_begin
  opening_begins es h = rw (drop_of_length-le p.initial h)

  pub next_first : next p [] ≡ some (opening p [])
  unfolding next
  next_first = refl

  module _ (e : Entry) (es : List Entry) where
    pub next_added : (m : Message) → e.call ≡ AddInitial m → e.answer ≡ Accepted → next p (e ∷ es) ≡ some (opening p (e ∷ es))
    unfolding next after is_initial if◌then◌otherwise◌
    next_added m c a = rw (a, c)

    pub initials_added : (m : Message) → e.call ≡ AddInitial m → e.answer ≡ Accepted → initials (e ∷ es) ≡ initials es + 1
    unfolding is_initial refused
    initials_added m c a = one_initial e es (rw (c, a))

    pub next_begun : (h b : ℕ) → e.call ≡ Begin h b → e.answer ≡ Accepted → next p (e ∷ es) ≡ some Step
    unfolding next after is_initial if◌then◌otherwise◌
    next_begun h b c a = rw (a, c)

    pub next_batch : (bs : List Event) (g : ℕ) → e.call ≡ Step → e.answer ≡ Batch bs g → next p (e ∷ es) ≡ some (HandBack 0 (due (left p es) bs))
    unfolding next after
    next_batch bs g c a =
        let h : after p (e ∷ es) e.call e.answer ≡ after p (e ∷ es) e.call (Batch bs g) = ap (after p (e ∷ es) e.call) a in
        h ∙ ap (λ (rs : List Reply). some (HandBack 0 (due rs bs))) (left_same p e es (commits_step e c))

    pub next_advanced : (g : ℕ) → e.answer ≡ Advanced g → next p (e ∷ es) ≡ some Step
    unfolding next after
    next_advanced g a = rw a

    pub next_committed : (g : ℕ) → e.answer ≡ Committed g → next p (e ∷ es) ≡ some Step
    unfolding next after
    next_committed g a = rw a

    pub next_finished : (g : ℕ) → e.answer ≡ Finished g → next p (e ∷ es) ≡ none
    unfolding next after
    next_finished g a = rw a

    pub next_refused : (r : Refusal) → e.answer ≡ Refused r → next p (e ∷ es) ≡ none
    unfolding next after
    next_refused r a = rw a

-- The lines, what is in hand and the replies left, with one entry more.
module _ (e : Entry) (es : List Entry) where
  pub hand_of_batch : (bs : List Event) (g : ℕ) → e.answer ≡ Batch bs g → in_hand (e ∷ es) ≡ bs
  hand_of_batch bs g a = rw a (hand_batch e.call bs g e.raises es)

  pub lines_same : commits e ≡ false → handled_lines (e ∷ es) ≡ handled_lines es
  unfolding handled_lines if◌then◌otherwise◌
  lines_same c = rw c (append-nil (handled_lines es))

  pub lines_more : commits e ≡ true → handled_lines (e ∷ es) ≡ handled_lines es ++ event_lines (in_hand es)
  unfolding handled_lines if◌then◌otherwise◌
  lines_more c = rw c

  pub handled_same : (q : ℕ) → commits e ≡ false → handled_by q (e ∷ es) ≡ handled_by q es
  unfolding handled_by if◌then◌otherwise◌
  handled_same q c = rw c (omega arith)

  pub handled_more : (q : ℕ) → commits e ≡ true → handled_by q (e ∷ es) ≡ length (events_at q (in_hand es)) + handled_by q es
  unfolding handled_by if◌then◌otherwise◌
  handled_more q c = rw c

-- A hand back e behind the batch d.
module _ (p : Plan) (e d : Entry) (es : List Entry) (bs : List Event) (g : ℕ) (b : d.answer ≡ Batch bs g) where
  pub lines_handed : commits e ≡ true → handled_lines (e ∷ d ∷ es) ≡ handled_lines (d ∷ es) ++ event_lines bs
  lines_handed c = lines_more e (d ∷ es) c ∙ ap (λ (l : List Event). handled_lines (d ∷ es) ++ event_lines l) (hand_of_batch d es bs g b)

  pub left_handed : commits e ≡ true → left p (e ∷ d ∷ es) ≡ spend bs (left p (d ∷ es))
  left_handed c = left_less p e (d ∷ es) c ∙ ap (λ (l : List Event). spend l (left p (d ∷ es))) (hand_of_batch d es bs g b)

-- The replies of one process: the first of those left is due, and is gone when it is used.
pub reply_first : (q : ℕ) (rs : List Reply) → reply_of q rs ≡ get_or (replies_by q rs) 0 []
reply_first q rs = first_is q rs

pub replies_own : (q : ℕ) (rs : List Reply) → replies_by q (without q rs) ≡ drop 1 (replies_by q rs)
replies_own q rs = without_own q rs

pub replies_other : (q r : ℕ) (rs : List Reply) → (r ≡ q → ⊥) → replies_by q (without r rs) ≡ replies_by q rs
replies_other q r rs n = without_other q r rs (ne_eqb r q n)

-- Of the events of a batch, those of the process q use up as many of its replies.
pub replies_spent : (q : ℕ) (bs : List Event) (rs : List Reply) → replies_by q (spend bs rs) ≡ drop (length (events_at q bs)) (replies_by q rs)
replies_spent q bs rs = spent q bs rs
