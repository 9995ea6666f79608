-- What the reply to a batch gives.
use mathlib.Core.Path.{◌≡◌, refl, sym, ap, subst, ◌∙◌}
use mathlib.Core.Bool.{true, false, ◌||◌}
use mathlib.Core.List.{List, ◌∷◌, ◌++◌}
use Prim.Native.Nat.{ℕ, ◌+◌, ◌*◌, ◌/◌, ◌≤◌, ◌<◌}
use native.Mathlib.Omega.{arith}
use lib.Dec.{eqb}
use lib.ListN.{length, take}
use lib.Seq.{length-take-le}
use borrow.Author.Tests.{eqb-true, eqb-false, eq-eqb}
use Rattle.bits.specs.Bytes.{stream}
use Rattle.rules.specs.State as R
use Rattle.rules.specs.State.{Event, State}
use Rattle.rules.specs.Answers.{number}
use Rattle.rules.specs.Rows.{Out, out}
use Rattle.rules.specs.HandBack.{hand_back}
use Rattle.rules.specs.Calls.{Call, HandBack, rule}
use Rattle.rules.specs.History.{Entry, entry, in_hand, commits}
use Rattle.rules.proofs.Tests.{by_bool}
use Rattle.records.specs.Records.{events_of}
use Rattle.reply_words.specs.Emissions.{emissions_of}
use Rattle.reply_words.proofs.Cut.{emissions_cut}
use Rattle.state.specs.declared.Header.{Header}
use Rattle.state.specs.declared.Counters.{Counters}
use Rattle.state.specs.declared.CoreResult.{CoreResult}
use Rattle.state.specs.View.{view, counters_of, answer_of}
use Rattle.state.specs.Numbers.{number_of}
use Rattle.state.proofs.Numbering.{numbered}
use Rattle.hand_back_commit.specs.HandsBack.{HandsBack}
use Rattle.plan_file.specs.Plan.{Plan, Reply}
use Rattle.plan_rules.specs.Host.{due, left, spend, next}
use Rattle.plan_rules.specs.Run.{run}
use Rattle.plan_rules.specs.Listing.{event_lines, handled_lines}
use Rattle.plan_rules.proofs.Ends.{good_run}
use Rattle.plan_rules.proofs.Runs.{runs}
use Rattle.plan_rules.proofs.Replies.{left_less}
use Rattle.plan_rules.proofs.Loop.{run_hand, lines_same, lines_more}
use Rattle.plan_rules.proofs.Payloads.{long_payloads}
use Rattle.plan_text.specs.Appends.{Appends, Listed}
use Rattle.plan_text.proofs.Appending.{listed_more, listed_kept}
use Rattle.plan_replies.specs.Table.{Table}
use Rattle.plan_replies.specs.Fills.{CanReply, Emits, Fills}
use Rattle.plan_round.specs.Reached.{plan_of, Reached, Replying, ListedSoFar, Holding}
use Rattle.plan_round.specs.Turns.{Turns, PlaceAfter}
use Rattle.plan_round.proofs.Follows.{true_not_false, AfterHandBack, after_hand_back}
use Rattle.plan_round.proofs.Onward.{reached_next, entries_next, number_next}

-- A batch in hand, and its reply.
module _ (s : List ℕ) (k : ℕ) (h : Header) (c : Counters) (E Q Z B t y l : List ℕ) (at : ℕ) (i : Holding s k h c E Q Z B t y l at) where
  abbrev plan : Plan
  plan = plan_of s

  pub can_reply : CanReply s t y 0
  can_reply = record {
    replies = plan.replies;
    left = left plan (run plan k).entries;
    short = i.replying.short;
    table = i.replying.leads;
    room = omega (arith, i.replying.room, (good_run plan k).fit.replies);
  }

  module _ (l' : List ℕ) (a : ℕ) (lined : Appends l at (event_lines (events_of h.batch B)) l' a) (t' y' : List ℕ) (n : ℕ) (filled : Fills s t (events_of h.batch B) t' y' n) (r : CoreResult) (Q' Z' B' : List ℕ)
      (q : length Q' ≡ length Q) (z : length Z' ≡ length Z) (b : length B' ≡ length B) (same : length y' ≡ length y) (w : List ℕ) (cut : w ≡ take (8 * n) y') (there : 8 * n ≤ length y')
      (g : HandsBack h c E Q Z B 0 (emissions_of (length w / 8) w) r Q' Z' B') where
    abbrev before : List Entry
    before = (run plan k).entries

    hand : (run plan k).now.batch ≡ events_of h.batch B
    hand = ap (λ (x : State). x.batch) i.reached.state

    abbrev call : Call
    call = HandBack 0 (due (left plan before) (run plan k).now.batch)

    emits : Emits y' n (due (left plan before) (events_of h.batch B))
    emits = filled.emits plan.replies (left plan before) i.replying.leads

    words_are : emissions_of (length w / 8) w ≡ emissions_of n y'
    words_are =
        let e : length w ≡ 8 * n = ap length cut ∙ length-take-le (8 * n) y' there in
        let d : length w / 8 ≡ n = omega arith in
        (λ j. emissions_of (d j) (cut j)) ∙ emissions_cut y' n

    gives : out (answer_of (events_of r.head.batch B') r.answer) (view r.head E Q' Z' B') (counters_of r.counters) ≡ rule (view h E Q Z B) (counters_of c) call
    unfolding rule
    gives =
        g.gives ∙ ap (hand_back (view h E Q Z B) (counters_of c) 0) words_are ∙ sym (long_payloads.hand_back_holds (view h E Q Z B) (counters_of c) 0 _ _ emits.alike)
        ∙ ap (λ (bs : List Event). hand_back (view h E Q Z B) (counters_of c) 0 (due (left plan before) bs)) (sym hand)

    abbrev given_back : Out
    given_back = rule (view h E Q Z B) (counters_of c) call

    came : Reached plan (k + 1) r.head r.counters E Q' Z' B'
    came = reached_next plan k h c E Q Z B i.reached call i.next_is r E Q' Z' B' gives refl q z b

    abbrev last : Entry
    last = entry (run plan k).now call given_back

    entries_are : (run plan (k + 1)).entries ≡ last ∷ before
    entries_are = entries_next plan k h c E Q Z B i.reached call i.next_is r E Q' Z' B' gives

    open_run : (view h E Q Z B).running ≡ true
    open_run = ap (λ (x : State). x.running) (sym i.reached.state) ∙ (((runs plan R.zeros i.reached.accepted).ready k).handing 0 _ i.next_is).0

    follows : AfterHandBack plan before 0 (due (left plan before) (run plan k).now.batch) last.raises given_back
    unfolding rule
    follows = after_hand_back plan before 0 _ _ (view h E Q Z B) (counters_of c) open_run

    held : in_hand before ≡ events_of h.batch B
    held = run_hand plan R.zeros i.reached.accepted k ∙ hand

    abbrev m : ℕ
    m = number_of r.answer

    pub turned_back : (x : ℕ) → PlaceAfter (number_of r.answer) at a x → Turns s k (record { head = r.head; counters = r.counters; answer = r.answer; at = x; calls = k + 1 }) E Q' Z' B' t' y' l'
    turned_back x place = record {
      later = omega arith;
      came = record {
        reached = came;
        listed = listed;
        number = number_next plan k h c E Q Z B i.reached call i.next_is r E Q' Z' B' gives m refl;
        goes = λ u v. record { reached = came; next_is = ap (next plan) entries_are ∙ (follows.goes (sym is ∙ u)).0; replying = replying u; listed = listed };
        stops = λ u. ap (next plan) entries_are ∙ follows.stops (rw is at u);
        closes = λ u. by_bool (eqb m 0)
            (λ v. true_not_false (sym (follows.goes (sym is ∙ eqb-true m 0 v)).1 ∙ ap (λ (o : Out). o.after.running) (sym gives) ∙ u))
            (λ v. let f = eqb-false m 0 v in let p : 0 < m = omega arith in ap (next plan) entries_are ∙ follows.stops (rw is at p));
      };
    }
      where
        is : m ≡ number given_back.answer
        is = numbered (events_of r.head.batch B') r.answer given_back.answer (ap (λ (o : Out). o.answer) gives)

        commits-is : commits last ≡ eqb m 0 || eqb m 24
        commits-is = follows.commits ∙ ap (λ (j : ℕ). eqb j 0 || eqb j 24) (sym is)

        kept-lines : commits last ≡ true → x ≡ a → ListedSoFar plan (k + 1) l' x
        kept-lines u v =
            let ls : handled_lines (run plan (k + 1)).entries ≡ handled_lines before ++ event_lines (events_of h.batch B) = ap handled_lines entries_are ∙ lines_more last before u ∙ ap (λ (bs : List Event). handled_lines before ++ event_lines bs) held in
            subst (λ (j : ℕ). Listed l' j (handled_lines (run plan (k + 1)).entries)) (sym v) (subst (Listed l' a) (sym ls) (listed_more l l' (handled_lines before) _ at a i.listed lined))

        dropped-lines : commits last ≡ false → x ≡ at → ListedSoFar plan (k + 1) l' x
        dropped-lines u v =
            let ls : handled_lines (run plan (k + 1)).entries ≡ handled_lines before = ap handled_lines entries_are ∙ lines_same last before u in
            subst (λ (j : ℕ). Listed l' j (handled_lines (run plan (k + 1)).entries)) (sym v) (subst (Listed l' at) (sym ls) (listed_kept l l' (handled_lines before) _ at a i.listed lined))

        listed : ListedSoFar plan (k + 1) l' x
        listed = by_bool (eqb m 0)
            (λ u. kept-lines (commits-is ∙ rw u) (place.committed (eqb-true m 0 u)))
            (λ u. by_bool (eqb m 24)
            (λ v. kept-lines (commits-is ∙ rw (u, v)) (place.spent (eqb-true m 24 v)))
            (λ v. dropped-lines (commits-is ∙ rw (u, v)) (place.other (eqb-false m 0 u) (eqb-false m 24 v))))

        left_is : m ≡ 0 → left plan (run plan (k + 1)).entries ≡ spend (events_of h.batch B) (left plan before)
        left_is u = ap (left plan) entries_are ∙ left_less plan last before (commits-is ∙ rw (eq-eqb m 0 u)) ∙ ap (λ (bs : List Event). spend bs (left plan before)) held

        replying : m ≡ 0 → Replying s (k + 1) t' y'
        replying u = record {
          short = i.replying.short;
          leads = subst (λ (v : List Reply). Table (stream s) plan.replies v 0 t') (sym (left_is u)) (filled.table plan.replies (left plan before) i.replying.leads);
          room = rw same i.replying.room;
          countable = i.replying.countable;
        }
