-- What each function that carries out a call gives, by what its core promises.
use mathlib.Core.Path.{◌≡◌, ap, ◌∙◌}
use mathlib.Core.List.{List}
use Prim.Native.Nat.{ℕ, ◌+◌, ◌*◌, ◌≤◌, ◌<◌}
use native.Mathlib.Omega.{arith}
use lib.ListN.{length, get_or, drop}
use Rattle.types.specs.declared.SimTime.{SimTime}
use Rattle.types.specs.Value.{ticks_of}
use Rattle.words.specs.Words.{tick_at}
use Rattle.records.specs.Records.{events_of}
use Rattle.reply_words.specs.Emissions.{emissions_of}
use Rattle.rules.specs.State as R
use Rattle.rules.specs.Rows.{Out, out}
use Rattle.rules.specs.Initial.{add_initial}
use Rattle.rules.specs.Begin as rules
use Rattle.rules.specs.HandBack.{Emission, hand_back}
use Rattle.rules.specs.Calls.{Call, AddInitial, Begin, rule}
use Rattle.state.specs.declared.Header.{Header}
use Rattle.state.specs.declared.Counters.{Counters}
use Rattle.state.specs.declared.Message.{Message}
use Rattle.state.specs.declared.CoreResult.{CoreResult}
use Rattle.state.specs.View.{view, counters_of, message_of, answer_of}
use Rattle.state.specs.ValidArrays.{ValidArrays}
use Rattle.state.proofs.Numbering.{numbered, valued}
use Rattle.state.proofs.Facts.{few_edges, in_order, newest}
use Rattle.state.specs.declared.HeaderResult.{HeaderResult}
use Rattle.begin_run.specs.Begins.{Begins}
use Rattle.schedule_initial.specs.AddsInitial.{AddsInitial}
use Rattle.step.specs.Steps.{Steps}
use Rattle.hand_back_commit.specs.HandsBack.{HandsBack}
use Rattle.call_words.specs.Decode.{message_at, hand_back_at, decode, size, call_of}
use Rattle.call_words.proofs.Decoding.{Stands, inside, stands_0, stands_1, stands_2, stands_3}
use Rattle.call_list.specs.Executes.{Executes, CanAddOrBegin, AddsOrBegins}

-- Number and values follow from the whole answer.
executes : (k : Call) (h : Header) (c : Counters) (E Q Z B : List ℕ) (r : CoreResult) (E' Q' Z' B' : List ℕ)
    → out (answer_of (events_of r.head.batch B') r.answer) (view r.head E' Q' Z' B') (counters_of r.counters) ≡ rule (view h E Q Z B) (counters_of c) k → Executes k h c E Q Z B r E' Q' Z' B'
executes k h c E Q Z B r E' Q' Z' B' g =
    let e : answer_of (events_of r.head.batch B') r.answer ≡ (rule (view h E Q Z B) (counters_of c) k).answer = ap (λ (o : Out). o.answer) g in
    record { gives = g; number_is = numbered _ r.answer _ e; values_are = valued _ r.answer _ e }

-- Add initial and begin, by tag.
module _ (h : Header) (E Q w : List ℕ) (at : ℕ) (f : CanAddOrBegin h E Q w at) where
  pub tag_there : at < length w
  tag_there = inside w at f.some

  module _ (tag : get_or w at 0 ≡ 1) where
    begins : Stands w at (Begin (tick_at w (at + 1)) (get_or w (at + 3) 0)) 4
    begins = stands_1 w at f.some tag

    pub begin_there : at + 4 ≤ length w
    begin_there = begins.there

    pub begin_set_up : (t : SimTime) (r : HeaderResult) → ticks_of t ≡ tick_at w (at + 1) → Begins h t (get_or w (at + 3) 0) r → AddsOrBegins (call_of (decode w at)) h E Q r Q
    unfolding rule
    begin_set_up t r e g = λ c Z B l. rw begins.is (executes _ _ _ _ _ _ _ _ _ _ _ _ (g.gives E Q Z B (counters_of c) l.passes ∙ ap (λ (y : ℕ). rules.begin (view h E Q Z B) (counters_of c) y (get_or w (at + 3) 0)) e))

  module _ (other : get_or w at 0 ≡ 1 → ⊥) where
    initial : Stands w at (AddInitial (message_at w (at + 1))) 8
    initial = stands_0 w at f.some (omega (arith, f.tag))

    pub initial_there : at + 8 ≤ length w
    initial_there = initial.there

    pub initial_set_up : (m : Message) (r : HeaderResult) (Q' : List ℕ) → message_of m ≡ message_at w (at + 1) → AddsInitial h E Q m r Q' → AddsOrBegins (call_of (decode w at)) h E Q r Q'
    unfolding rule
    initial_set_up m r Q' e g = λ c Z B l. rw initial.is (executes _ _ _ _ _ _ _ _ _ _ _ _ (g.gives Z B (counters_of c) l.passes ∙ ap (λ (y : R.Message). add_initial (view h E Q Z B) (counters_of c) y) e))

-- What they ask.
pub for_set_up : (h : Header) (E Q Z B w : List ℕ) (at : ℕ) → ValidArrays h E Q Z B → 0 < size (decode w at) → get_or w at 0 < 2 → CanAddOrBegin h E Q w at
for_set_up h E Q Z B w at l s t = record {
  edges_there = omega (arith, l.edge_words, few_edges h E Q Z B l.passes);
  queueable = record { pending_words = l.pending_words; order = in_order h E Q Z B l.passes; newest = newest h E Q Z B l.passes };
  some = s;
  tag = t;
}

-- Step and hand back, by tag.
module _ (w : List ℕ) (at : ℕ) (some : 0 < size (decode w at)) where
  abbrev CarriesThis : Header → Counters → List ℕ → List ℕ → List ℕ → List ℕ → CoreResult → List ℕ → List ℕ → List ℕ → List ℕ → Type 0
  CarriesThis = Executes (call_of (decode w at))

  pub step_carried : get_or w at 0 ≡ 2 → (h : Header) (c : Counters) (E Q Z B : List ℕ) (r : CoreResult) (E' Q' Z' B' : List ℕ) → Steps h c E Q Z B r E' Q' Z' B' → CarriesThis h c E Q Z B r E' Q' Z' B'
  unfolding rule
  step_carried tag h c E Q Z B r E' Q' Z' B' g = rw (stands_2 w at some tag).is (executes _ _ _ _ _ _ _ _ _ _ _ _ g.gives)

  module _ (above : 2 ≤ get_or w at 0) (other : get_or w at 0 ≡ 2 → ⊥) where
    abbrev n : ℕ
    n = get_or w (at + 2) 0

    back : Stands w at (hand_back_at w at n) (3 + 8 * n)
    back = stands_3 w at some (λ e. omega arith) (λ e. omega arith) other

    pub back_there : at + (3 + 8 * n) ≤ length w
    back_there = back.there

    pub back_carried : (h : Header) (c : Counters) (E Q Z B : List ℕ) (reply : List Emission) (r : CoreResult) (Q' Z' B' : List ℕ) → reply ≡ emissions_of n (drop (at + 3) w) → HandsBack h c E Q Z B (get_or w (at + 1) 0) reply r Q' Z' B' → CarriesThis h c E Q Z B r E Q' Z' B'
    unfolding rule hand_back_at
    back_carried h c E Q Z B reply r Q' Z' B' e g = rw back.is (executes _ _ _ _ _ _ _ _ _ _ _ _ (g.gives ∙ ap (λ (xs : List Emission). hand_back (view h E Q Z B) (counters_of c) (get_or w (at + 1) 0) xs) e))
