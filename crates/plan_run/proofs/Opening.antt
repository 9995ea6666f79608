-- What add initial and begin give along a plan's run.
use mathlib.Core.Path.{◌≡◌, refl, sym, ap, subst, ◌∙◌}
use mathlib.Core.Bool.{true, false}
use mathlib.Core.List.{List, [], ◌∷◌}
use Prim.Native.Nat.{ℕ, suc, ◌+◌, ◌*◌, ◌≤◌, ◌<◌}
use native.Mathlib.Omega.{arith}
use lib.ListN.{length, get_or, drop}
use lib.Seq.{drop-cons}
use Rattle.bits.specs.Bytes.{stream}
use Rattle.types.specs.declared.SimTime.{SimTime}
use Rattle.words.specs.Words.{zeroes}
use Rattle.rules.specs.Base.{none, some}
use Rattle.rules.specs.State as R
use Rattle.rules.specs.State.{State}
use Rattle.rules.specs.Answers.{Accepted, Refused, Refusal, number}
use Rattle.rules.specs.Rows.{Out, out}
use Rattle.rules.specs.Initial.{add_initial}
use Rattle.rules.specs.Begin.{begin}
use Rattle.rules.specs.Calls.{Call, AddInitial, Begin, Step, rule}
use Rattle.rules.specs.History.{Entry, entry, is_hand_back, initials, commits}
use Rattle.rules.proofs.Cases.{by_initial, by_begin}
use Rattle.rules.proofs.Counts.{entry_of}
use Rattle.records.specs.Records.{events_of}
use Rattle.state.specs.declared.Header.{Header}
use Rattle.state.specs.declared.CoreResult.{CoreResult}
use Rattle.state.specs.declared.HeaderResult.{HeaderResult}
use Rattle.state.specs.declared.Answer.TheVariants.{Accepted as Accepted'}
use Rattle.std.proofs.Common.{Ok}
use Rattle.state.specs.View.{view, counters_of, zero_counters, message_of, answer_of}
use Rattle.state.specs.Numbers.{number_of}
use Rattle.state.proofs.Numbering.{numbered}
use Rattle.state.proofs.Facts.{few_edges, in_order, newest}
use Rattle.begin_run.specs.Begins.{Begins}
use Rattle.schedule_initial.specs.AddsInitial.{CanEnqueue, AddsInitial}
use Rattle.plan_file.specs.Plan.{Plan}
use Rattle.plan_file.specs.Grammar.{message}
use Rattle.plan_file.specs.Standing.{Standing, IsGot}
use Rattle.plan_file.proofs.Stands.{after_first, first_stands, others_stand}
use Rattle.plan_rules.specs.Host.{left, opening, next}
use Rattle.plan_rules.specs.Run.{run}
use Rattle.plan_rules.specs.Listing.{handled_lines, last_number}
use Rattle.plan_rules.proofs.Replies.{left_same}
use Rattle.plan_rules.proofs.Loop.{lines_same, commits_other, opening_adds, opening_begins, next_added, initials_added, next_begun, next_refused}
use Rattle.plan_rules.proofs.Payloads.{long_payloads}
use Rattle.plan_reader.specs.declared.MessageAt.{MessageAt}
use Rattle.plan_reader.specs.Read.{MessageRead}
use Rattle.plan_round.specs.Reached.{plan_of}
use Rattle.plan_rules.proofs.RefusalNumbers as refusals
use Rattle.plan_round.proofs.Onward.{reached_next, entries_next, number_next}
use Rattle.plan_run.specs.declared.Opened.{Opened}
use Rattle.plan_run.specs.Opens.{Before, Adding, Adds, Opens, Begun}

-- What follows an add initial, and a begin, that gave o.
pub record AfterInitial (p : Plan) (es : List Entry) (m : R.Message) (r : ℕ) (o : Out) : Type 0 where
  pub goes : number o.answer ≡ 0 → o.answer ≡ Accepted
  pub stops : 0 < number o.answer → next p (entry_of (AddInitial m) o.answer r ∷ es) ≡ none

refused_initial : (p : Plan) (es : List Entry) (m : R.Message) (r : ℕ) (why : Refusal) (t : State) (c : R.Counters) → AfterInitial p es m r (out (Refused why) t c)
unfolding number
refused_initial p es m r why t c = record { goes = λ n. absurd (omega (arith, (refusals.numbered why).positive)); stops = λ _. next_refused p (entry_of (AddInitial m) (Refused why) r) es why refl }

pub after_initial : (p : Plan) (es : List Entry) (m : R.Message) (r : ℕ) (s : State) (c : R.Counters) → AfterInitial p es m r (add_initial s c m)
unfolding number
after_initial p es m r s c =
    by_initial s c m (AfterInitial p es m r)
    (record {
      foreign = λ _. refused_initial p es m r _ s c;
      refused = λ why _. refused_initial p es m r why s c;
      accept = λ _. record { goes = λ _. refl; stops = λ l. absurd (omega arith) };
    })

pub record AfterBegin (p : Plan) (es : List Entry) (h b r : ℕ) (o : Out) : Type 0 where
  pub goes : number o.answer ≡ 0 → (next p (entry_of (Begin h b) o.answer r ∷ es) ≡ some Step) × (o.after.running ≡ true)
  pub stops : 0 < number o.answer → next p (entry_of (Begin h b) o.answer r ∷ es) ≡ none

refused_begin : (p : Plan) (es : List Entry) (h b r : ℕ) (why : Refusal) (t : State) (c : R.Counters) → AfterBegin p es h b r (out (Refused why) t c)
unfolding number
refused_begin p es h b r why t c = record { goes = λ n. absurd (omega (arith, (refusals.numbered why).positive)); stops = λ _. next_refused p (entry_of (Begin h b) (Refused why) r) es why refl }

pub after_begin : (p : Plan) (es : List Entry) (h b r : ℕ) (s : State) (c : R.Counters) → AfterBegin p es h b r (begin s c h b)
unfolding number
after_begin p es h b r s c =
    by_begin s c h b (AfterBegin p es h b r)
    (record {
      foreign = λ _. refused_begin p es h b r _ s c;
      refused = λ why _. refused_begin p es h b r why s c;
      accept = λ _. record { goes = λ _. (next_begun p (entry_of (Begin h b) Accepted r) es h b refl refl, refl); stops = λ l. absurd (omega arith) };
    })

-- A call that counts nothing, as the core gave it: the run has come one call further, and still nothing is handled.
abbrev with_zero : HeaderResult → CoreResult
with_zero r = record { answer = r.answer; head = r.head; counters = zero_counters }

module _ (p : Plan) (k : ℕ) (h : Header) (E Q Z : List ℕ) (i : Before p k h E Q Z) (call : Call) (n : next p (run p k).entries ≡ some call) (other : is_hand_back call ≡ false) (r : HeaderResult) (Q' : List ℕ) (q : length Q' ≡ length Q)
    (g : out (answer_of (events_of r.head.batch (zeroes 512)) r.answer) (view r.head E Q' Z (zeroes 512)) (counters_of zero_counters) ≡ rule (view h E Q Z (zeroes 512)) (counters_of zero_counters) call) where
  abbrev given : Out
  given = rule (view h E Q Z (zeroes 512)) (counters_of zero_counters) call

  abbrev last : Entry
  last = entry (run p k).now call given

  pub entries_are : (run p (k + 1)).entries ≡ last ∷ (run p k).entries
  entries_are = entries_next p k h zero_counters E Q Z (zeroes 512) i.reached call n (with_zero r) E Q' Z (zeroes 512) g

  nothing_commits : commits last ≡ false
  nothing_commits = commits_other last other

  pub before_next : Before p (k + 1) r.head E Q' Z
  before_next = record {
    reached = reached_next p k h zero_counters E Q Z (zeroes 512) i.reached call n (with_zero r) E Q' Z (zeroes 512) g refl q refl refl;
    nothing_left_out = ap (left p) entries_are ∙ left_same p last (run p k).entries nothing_commits ∙ i.nothing_left_out;
    no_lines = ap handled_lines entries_are ∙ lines_same last (run p k).entries nothing_commits ∙ i.no_lines;
  }

  pub number_is : (m : ℕ) → m ≡ number_of r.answer → m ≡ number given.answer
  number_is m e = e ∙ numbered (events_of r.head.batch (zeroes 512)) r.answer given.answer (ap (λ (o : Out). o.answer) g)

  pub last_number_holds : (m : ℕ) → m ≡ number_of r.answer → m ≡ last_number (run p (k + 1)).entries
  last_number_holds m e = number_next p k h zero_counters E Q Z (zeroes 512) i.reached call n (with_zero r) E Q' Z (zeroes 512) g m e

-- What add initial asks.
pub can_add : (s : List ℕ) (k at : ℕ) (h : Header) (E Q Z : List ℕ) → Adding s k at h E Q Z → (6 * h.edges ≤ length E) × CanEnqueue h Q
can_add s k at h E Q Z i =
    let l = i.before.reached.lent in (
      omega (arith, l.edge_words, few_edges h E Q Z (zeroes 512) l.passes),
      record { pending_words = l.pending_words; order = in_order h E Q Z (zeroes 512) l.passes; newest = newest h E Q Z (zeroes 512) l.passes },
    )

-- One initial event more.
module _ (s : List ℕ) (k at : ℕ) (h : Header) (E Q Z : List ℕ) (i : Adding s k at h E Q Z) (l : k < length (plan_of s).initial) where
  abbrev p : Plan
  p = plan_of s

  abbrev event : R.Message
  event = get_or p.initial k (record { source = 0; destination = 0; tick = 0; payload = [] })

  here : Standing message (stream s) at (event ∷ drop (suc k) p.initial)
  here = subst (Standing message (stream s) at) (drop-cons p.initial k _ l) i.standing

  pub event_there : IsGot (message.get (drop at (stream s)))
  event_there = subst IsGot (sym (first_stands here)) tt

  module _ (m : MessageAt) (read : MessageRead (stream s) at m) (r : HeaderResult) (Q' : List ℕ) (q : length Q' ≡ length Q) (g : AddsInitial h E Q m.message r Q') where
    abbrev n : ℕ
    n = number_of r.answer

    next_is : next p (run p k).entries ≡ some (AddInitial event)
    next_is = i.next_is ∙ ap some (opening_adds p (run p k).entries k _ i.added l)

    gives : out (answer_of (events_of r.head.batch (zeroes 512)) r.answer) (view r.head E Q' Z (zeroes 512)) (counters_of zero_counters) ≡ rule (view h E Q Z (zeroes 512)) (counters_of zero_counters) (AddInitial event)
    unfolding rule
    gives =
        g.gives Z (zeroes 512) (counters_of zero_counters) i.before.reached.lent.passes
        ∙ sym (long_payloads.initial (view h E Q Z (zeroes 512)) (counters_of zero_counters) event (message_of m.message) (read.like event (after_first here) (first_stands here)))

    abbrev added_now : Out
    added_now = rule (view h E Q Z (zeroes 512)) (counters_of zero_counters) (AddInitial event)

    no_hand_back : is_hand_back (AddInitial event) ≡ false
    unfolding is_hand_back
    no_hand_back = refl

    before_it : Before p (k + 1) r.head E Q' Z
    before_it = before_next p k h E Q Z i.before (AddInitial event) next_is no_hand_back r Q' q gives

    entries_now : (run p (k + 1)).entries ≡ entry (run p k).now (AddInitial event) added_now ∷ (run p k).entries
    entries_now = entries_are p k h E Q Z i.before (AddInitial event) next_is no_hand_back r Q' q gives

    follows_it : AfterInitial p (run p k).entries event (entry (run p k).now (AddInitial event) added_now).raises added_now
    unfolding rule
    follows_it = after_initial p (run p k).entries event _ (view h E Q Z (zeroes 512)) (counters_of zero_counters)

    number_now : n ≡ number added_now.answer
    number_now = number_is p k h E Q Z i.before (AddInitial event) next_is no_hand_back r Q' q gives n refl

    number_last : n ≡ last_number (run p (k + 1)).entries
    number_last = last_number_holds p k h E Q Z i.before (AddInitial event) next_is no_hand_back r Q' q gives n refl

    pub adding_more : number_of r.answer ≡ 0 → Adding s (k + 1) m.next r.head E Q' Z
    adding_more z =
        let a : added_now.answer ≡ Accepted = follows_it.goes (sym number_now ∙ z) in
        let j : suc k ≡ k + 1 = omega arith in
        record {
          before = before_it;
          next_is = ap (next p) entries_now ∙ next_added p (entry (run p k).now (AddInitial event) added_now) (run p k).entries event refl a ∙ ap (λ (es : List Entry). some (opening p es)) (sym entries_now);
          added = ap initials entries_now ∙ initials_added p (entry (run p k).now (AddInitial event) added_now) (run p k).entries event refl a ∙ ap (λ (x : ℕ). x + 1) i.added;
          number = sym z ∙ number_last;
          short = i.short;
          standing = subst (λ (x : ℕ). Standing message (stream s) m.next (drop x p.initial)) j (others_stand here m.next (read.next event (after_first here) (first_stands here)) read.inside);
          inside = omega arith;
          countable = i.countable;
        }

    pub adding_refused : 0 < number_of r.answer → Adds s (record { head = r.head; answer = r.answer; calls = k + 1 }) E Q' Z
    adding_refused z = record {
      before = before_it;
      number = number_last;
      goes = λ x. absurd (omega arith);
      stops = λ _. ap (next p) entries_now ∙ follows_it.stops (rw number_now at z);
      few = omega (arith, i.countable);
    }

pub all_added : (s : List ℕ) (k at : ℕ) (h : Header) (E Q Z : List ℕ) → Adding s k at h E Q Z → length (plan_of s).initial ≤ k → Adds s (record { head = h; answer = Ok Accepted'; calls = k }) E Q Z
all_added s k at h E Q Z i l = record {
  before = i.before;
  number = i.number;
  goes = λ _. i.next_is ∙ ap some (opening_begins (plan_of s) (run (plan_of s) k).entries (omega (arith, i.added)));
  stops = λ x. absurd (omega arith);
  few = omega (arith, i.inside, i.countable);
}

-- Begin.
module _ (s : List ℕ) (o : Opened) (E Q Z : List ℕ) (i : Adds s o E Q Z) (z : number_of o.answer ≡ 0) (t : SimTime) (b : ℕ) (with : Begun s t b) (r : HeaderResult) (g : Begins o.head t b r) where
  abbrev m : ℕ
  m = number_of r.answer

  abbrev plan : Plan
  plan = plan_of s

  abbrev begin_call : Call
  begin_call = Begin plan.horizon plan.budget

  begin_gives : out (answer_of (events_of r.head.batch (zeroes 512)) r.answer) (view r.head E Q Z (zeroes 512)) (counters_of zero_counters) ≡ rule (view o.head E Q Z (zeroes 512)) (counters_of zero_counters) begin_call
  unfolding rule
  begin_gives =
      g.gives E Q Z (zeroes 512) (counters_of zero_counters) i.before.reached.lent.passes
      ∙ (λ j. begin (view o.head E Q Z (zeroes 512)) (counters_of zero_counters) (with.horizon_is j) (with.budget_is j))

  no_hand_back' : is_hand_back begin_call ≡ false
  unfolding is_hand_back
  no_hand_back' = refl

  abbrev begun_now : Out
  begun_now = rule (view o.head E Q Z (zeroes 512)) (counters_of zero_counters) begin_call

  begun_entries : (run plan (o.calls + 1)).entries ≡ entry (run plan o.calls).now begin_call begun_now ∷ (run plan o.calls).entries
  begun_entries = entries_are plan o.calls o.head E Q Z i.before begin_call (i.goes z) no_hand_back' r Q refl begin_gives

  follows_begin : AfterBegin plan (run plan o.calls).entries plan.horizon plan.budget (entry (run plan o.calls).now begin_call begun_now).raises begun_now
  unfolding rule
  follows_begin = after_begin plan (run plan o.calls).entries plan.horizon plan.budget _ (view o.head E Q Z (zeroes 512)) (counters_of zero_counters)

  begun_number : m ≡ number begun_now.answer
  begun_number = number_is plan o.calls o.head E Q Z i.before begin_call (i.goes z) no_hand_back' r Q refl begin_gives m refl

  pub opened_run : Opens s (record { head = r.head; answer = r.answer; calls = o.calls + 1 }) E Q Z
  opened_run = record {
    before = before_next plan o.calls o.head E Q Z i.before begin_call (i.goes z) no_hand_back' r Q refl begin_gives;
    number = last_number_holds plan o.calls o.head E Q Z i.before begin_call (i.goes z) no_hand_back' r Q refl begin_gives m refl;
    goes = λ x. let f = follows_begin.goes (sym begun_number ∙ x) in (ap (next plan) begun_entries ∙ f.0, ap (λ (y : Out). y.after.running) begin_gives ∙ f.1);
    stops = λ x. ap (next plan) begun_entries ∙ follows_begin.stops (rw begun_number at x);
  }

-- A refused initial event: there is no begin.
pub not_opened : (s : List ℕ) (o : Opened) (E Q Z : List ℕ) → Adds s o E Q Z → 0 < number_of o.answer → Opens s o E Q Z
not_opened s o E Q Z i l = record { before = i.before; number = i.number; goes = λ z. absurd (omega arith); stops = i.stops }
