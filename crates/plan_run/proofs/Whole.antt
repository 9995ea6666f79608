-- The whole run: from what build made to the listing.
use mathlib.Core.Path.{◌≡◌, refl, sym, ap, subst, ◌∙◌}
use mathlib.Core.Bool.{Bool}
use mathlib.Core.List.{List, ◌++◌}
use Prim.Native.Nat.{ℕ, ◌≤◌, ◌<◌}
use native.Mathlib.Omega.{arith}
use lib.Dec.{eqb}
use lib.ListN.{length}
use borrow.Author.Tests.{eqb-true, eqb-false}
use Rattle.bits.specs.Bytes.{stream}
use Rattle.types.specs.Value.{ticks_of}
use Rattle.words.specs.Words.{zeroes}
use Rattle.rules.specs.Base.{count}
use Rattle.rules.specs.State as R
use Rattle.rules.specs.State.{State}
use Rattle.rules.specs.Foreign.{foreign}
use Rattle.rules.specs.History.{initials}
use Rattle.rules.proofs.Tests.{by_bool}
use Rattle.rules.proofs.Shape.{passes_11}
use Rattle.rules.proofs.Built.{makes}
use Rattle.state.specs.declared.Header.{Header}
use Rattle.state.specs.declared.Counters.{Counters}
use Rattle.state.specs.View.{zero_counters}
use Rattle.state.specs.Numbers.{number_of}
use Rattle.plan_file.specs.Plan.{Plan, Reply}
use Rattle.plan_rules.specs.Setup.{setup_of}
use Rattle.plan_rules.specs.Host.{left}
use Rattle.plan_rules.specs.Run.{run, ran}
use Rattle.plan_rules.specs.Listing.{handled_lines, end_line, last_number, listing}
use Rattle.plan_rules.proofs.Ends.{ends}
use Rattle.plan_rules.proofs.Loop.{run_over, next_first}
use Rattle.plan_text.specs.Appends.{Listed, Holds}
use Rattle.plan_text.proofs.Appending.{listed_none}
use Rattle.plan_replies.specs.Table.{Table}
use Rattle.plan_round.specs.declared.Turn.{Turn}
use Rattle.plan_round.specs.Reached.{plan_of, Reached}
use Rattle.plan_round.specs.Turns.{Came}
use Rattle.plan_round.proofs.Follows.{true_not_false}
use Rattle.plan_run.specs.declared.Opened.{Opened}
use Rattle.plan_run.specs.Opens.{Adding, Opens}
use Rattle.plan_run.specs.Ends.{Ended, EndsWith}
use Rattle.plan_run.specs.RunsBuilt.{Built, InitialAt, Repliable, RunsBuilt}

-- Before the first call.
module _ (p : Plan) (h : Header) (E Z : List ℕ) (i : Built p h E Z) where
  pub first_reached : Reached p 0 h zero_counters E (zeroes 4096) Z (zeroes 512)
  unfolding run
  first_reached = record {
    accepted = i.accepted;
    state = i.state;
    counters = refl;
    lent = record {
      edge_words = i.edge_words;
      pending_words = refl;
      process_words = i.process_words;
      batch_words = refl;
      passes = ap foreign (sym i.state) ∙ passes_11 _ (makes (setup_of p) R.zeros i.accepted).shaped;
    };
  }

pub adding_start : (s : List ℕ) (at n : ℕ) (h : Header) (E Z : List ℕ) → Built (plan_of s) h E Z → InitialAt s at n → Adding s 0 at h E (zeroes 4096) Z
unfolding run left handled_lines initials count last_number
adding_start s at n h E Z i j = record {
  before = record { reached = first_reached (plan_of s) h E Z i; nothing_left_out = refl; no_lines = refl };
  next_is = next_first (plan_of s);
  added = refl;
  number = refl;
  short = j.short;
  standing = j.standing;
  inside = omega arith;
  countable = j.countable;
}

-- The turns start where the run was opened, with no line written.
module _ (s : List ℕ) (o : Opened) (E Q Z : List ℕ) (i : Opens s o E Q Z) (t y l : List ℕ) (short : length s ≤ 16384) (j : Repliable s t) (room : length y ≡ 7208) where
  abbrev first : Turn
  first = record { head = o.head; counters = zero_counters; answer = o.answer; at = 0; calls = o.calls }

  nothing_listed : Listed l 0 (handled_lines (run (plan_of s) o.calls).entries)
  nothing_listed = subst (Listed l 0) (sym i.before.no_lines) (listed_none l)

  came_first : Came s first E Q Z (zeroes 512) t y l
  came_first = record {
    reached = i.before.reached;
    listed = nothing_listed;
    number = i.number;
    goes = λ z _. record {
      reached = i.before.reached;
      next_is = (i.goes z).0;
      replying = record {
        short = short;
        leads = subst (λ (rs : List Reply). Table (stream s) (plan_of s).replies rs 0 t) (sym i.before.nothing_left_out) j.leads;
        room = omega (arith, j.room);
        countable = j.countable;
      };
      listed = nothing_listed;
    };
    stops = i.stops;
    closes = λ u. by_bool (eqb (number_of o.answer) 0)
        (λ z. true_not_false (sym (i.goes (eqb-true (number_of o.answer) 0 z)).1 ∙ u))
        (λ z. let f = eqb-false (number_of o.answer) 0 z in let p : 0 < number_of o.answer = omega arith in i.stops p);
  }

  pub came_start : (c : Counters) → c ≡ zero_counters → Came s (record { head = o.head; counters = c; answer = o.answer; at = 0; calls = o.calls }) E Q Z (zeroes 512) t y l
  came_start c e = subst (λ (x : Counters). Came s (record { head = o.head; counters = x; answer = o.answer; at = 0; calls = o.calls }) E Q Z (zeroes 512) t y l) (sym e) came_first

-- What stands in the slice at the end is the listing of the whole run.
module _ (s : List ℕ) (r : Turn) (E Q Z B l l' : List ℕ) (b : Bool) (i : Ended s r E Q Z B l) (k : ℕ) (is : k ≡ number_of r.answer) (e : EndsWith r.at k r.head r.counters l l' b) where
  abbrev p : Plan
  p = plan_of s

  whole : run p r.calls ≡ ran p
  whole = run_over p (ends p R.zeros i.reached.accepted) r.calls i.over

  abbrev here : List ℕ
  here = handled_lines (run p r.calls).entries ++ end_line k (ticks_of r.head.gvt) r.counters.rounds r.counters.null_messages

  listing_is : here ≡ listing (ran p)
  unfolding listing
  listing_is =
      (λ j. handled_lines (run p r.calls).entries ++ end_line ((is ∙ i.number) j) (sym i.reached.state j).gvt (sym i.reached.counters j).rounds (sym i.reached.counters j).null_messages)
      ∙ ap listing whole

  pub runs_built : (old : List ℕ) → length l ≡ length old → RunsBuilt s old l' b
  runs_built old same = subst (λ (n : ℕ). Holds n (listing (ran p)) l' b) same (subst (λ (text : List ℕ). Holds (length l) text l' b) listing_is (e (handled_lines (run p r.calls).entries) i.listed))
