-- How the invariant behind order is kept by what calls do: an insertion, a batch, fronts that rise, emissions that are queued.
use mathlib.Core.Path.{◌≡◌, sym, subst}
use mathlib.Core.Bool.{Bool, true, false, true≢false}
use mathlib.Core.List.{List, [], ◌∷◌}
use Prim.Native.Nat.{ℕ, ◌≤◌, ◌<◌}
use native.Mathlib.Omega.{arith}
use lib.ListN.{get_or}
use Rattle.rules.specs.Base.{up_from, rising}
use Rattle.rules.specs.State.{Event, Message, Edge, State, max_tick}
use Rattle.rules.specs.Pending.{before, insert, first_tick, queue}
use Rattle.rules.specs.Frontiers.{safe}
use Rattle.rules.specs.Refresh.{raised}
use Rattle.rules.specs.Step.{take_eligible, input_frontier, new_edges}
use Rattle.rules.specs.HandBack.{Emission, malformed, process_rows, messages}
use Rattle.rules.proofs.Tests.{not_both}
use Rattle.rules.proofs.Lists.{All, all_map, all_both, all_mapped}
use Rattle.rules.proofs.Table.{Passed}
use Rattle.rules.proofs.Shape.{Ahead, Shaped}
use Rattle.rules.proofs.Recorded.{RecordBelow}
use Rattle.rules.proofs.Order.{all_insert, sorted}
use Rattle.rules.proofs.Take.{take_all, take_safe}
use Rattle.rules.proofs.Checks.{Routed, each_emission}
use Rattle.rules.proofs.LastBranch.{first_least}
use Rattle.rules.proofs.Fair.{Floor, floor_raised, Reach, reach_more, reach_raised, Capped, capped_raised, capped_bounds, Under, safe_under, under_raised, Last, InHand}
use Rattle.rules.proofs.Emit.{fine}
use Rattle.rules.proofs.Handed.{handed_on, all_handed, Ordered, Above, take_good, take_last, Timely, queue_floor, queue_above}

-- Of the events handed out g, pending q and in hand bs, the edges es and the local horizons hs.
pub record Fair (g q bs : List Event) (es : List Edge) (hs : List ℕ) (initial running : Bool) : Type 0 where
  pub order : Ordered g
  pub above : Above g q
  pub floor : All (Floor hs) q
  pub held : All (InHand hs g) bs
  pub reach : All (Reach hs) es
  pub capped : All (Capped hs) es
  pub under : All (Under es) g
  pub fresh : initial ≡ true → (g ≡ []) × ((p : ℕ) → get_or hs p 0 ≡ 0)
  pub opened : running ≡ true → initial ≡ false

-- An initial event.
pub fair_insert : (g q bs : List Event) (es : List Edge) (hs : List ℕ) (initial running : Bool) (e : Event) → initial ≡ true → Fair g q bs es hs initial running → Fair g (insert e q) bs es hs initial running
fair_insert g q bs es hs initial running e o i =
    let f = i.fresh o in
    record {
      order = i.order;
      above = rw f.0 tt;
      floor = all_insert (Floor hs) e q (omega (arith, f.1 e.destination)) i.floor;
      held = i.held;
      reach = i.reach;
      capped = i.capped;
      under = i.under;
      fresh = i.fresh;
      opened = i.opened;
    }

-- A batch.
in_hand_holds : (hs : List ℕ) (g bs : List Event) → All (Floor hs) bs → All (Last g) bs → All (InHand hs g) bs
in_hand_holds hs g bs i j = all_map (λ b. Floor hs b × Last g b) (InHand hs g) (λ b k. record { floor = k.0; last = k.1 }) bs (all_both (Floor hs) (Last g) bs i j)

pub fair_batch : (g q bs : List Event) (es : List Edge) (hs m : List ℕ) (H n k : ℕ) (initial running : Bool) → RecordBelow m es → rising before q ≡ true → running ≡ true → Fair g q bs es hs initial running
    → Fair (handed_on (take_eligible m H (up_from 0 n) k q).events g) (take_eligible m H (up_from 0 n) k q).left (take_eligible m H (up_from 0 n) k q).events es hs initial running
fair_batch g q bs es hs m H n k initial running r s u i =
    let taken : List Event = (take_eligible m H (up_from 0 n) k q).events in
    let t = take_good m H (up_from 0 n) k q g (sorted q s) i.above i.order in
    let f = take_all (Floor hs) m H (up_from 0 n) k q i.floor in
    record {
      order = t.order;
      above = t.above;
      floor = f.left;
      held = in_hand_holds hs (handed_on taken g) taken f.events (take_last m H 0 n k q g (sorted q s) i.above);
      reach = i.reach;
      capped = i.capped;
      under = all_handed (Under es) taken g (all_map (λ (b : Event). b.tick < safe m H b.destination) (Under es) (λ b x. safe_under m es H b r x) taken (take_safe m H (up_from 0 n) k q)) i.under;
      fresh = λ e. not_both e (i.opened u);
      opened = i.opened;
    }

-- Where nothing is in hand, the local horizons may rise to at most the frontiers and the first ticks.
all_choose : {A : Type 0} (P : ℕ → A → Type 0) (f : A → ℕ) (xs : List A) → ((d : ℕ) → All (P d) xs) → All (λ a. P (f a) a) xs
all_choose P f [] i = tt
all_choose P f (x ∷ xs) i = ((i (f x)).0, all_choose P f xs (λ d. (i d).1))

first_tick_holds : (q : List Event) (d : ℕ → ℕ) → rising before q ≡ true → All (λ (e : Event). first_tick q e.destination (d e.destination) ≤ e.tick) q
first_tick_holds q d s = all_choose (λ k (e : Event). first_tick q e.destination k ≤ e.tick) (λ e. d e.destination) q (λ k. first_least q k s)

pub fair_raised : (g q : List Event) (es : List Edge) (hs m : List ℕ) (H : ℕ) (initial running : Bool) (to d : ℕ → ℕ) → RecordBelow m es → rising before q ≡ true → initial ≡ false → ((p : ℕ) → to p ≤ safe m H p) → ((p : ℕ) → to p ≤ first_tick q p (d p))
    → Fair g q [] es hs initial running → Fair g q [] es (raised to 0 hs) initial running
fair_raised g q es hs m H initial running to d r s o a b i = record {
  order = i.order;
  above = i.above;
  floor = floor_raised to hs q (all_map (λ (e : Event). first_tick q e.destination (d e.destination) ≤ e.tick) (λ (e : Event). to e.destination ≤ e.tick) (λ e x. omega (arith, b e.destination)) q (first_tick_holds q d s)) i.floor;
  held = tt;
  reach = reach_more to hs es i.reach;
  capped = capped_raised to H hs m es r a i.capped;
  under = i.under;
  fresh = λ e. not_both e o;
  opened = λ _. o;
}

-- The bounds rise after the local horizons did.
pub fair_bounds : (s : State) (H : ℕ) (g : List Event) (hs : List ℕ) (to : ℕ → ℕ) → hs ≡ raised (input_frontier s H) 0 s.horizons → H ≤ max_tick → Shaped s → All (Reach s.horizons) s.edges
    → Fair g s.pending [] s.edges (raised to 0 hs) s.initial s.running → Fair g s.pending [] (new_edges s H) (raised to 0 hs) s.initial s.running
fair_bounds s H g hs to e t w r i = record {
  order = i.order;
  above = i.above;
  floor = i.floor;
  held = tt;
  reach = reach_more to hs (new_edges s H) (rw e (reach_raised s H s.edges t w.sized.wide w.wired.joined r));
  capped = capped_bounds s H (raised to 0 hs) s.edges i.capped;
  under = all_map (Under s.edges) (Under (new_edges s H)) (λ x y. under_raised s H s.edges x y) g i.under;
  fresh = i.fresh;
  opened = i.opened;
}

pub fair_empty : (g q bs : List Event) (es : List Edge) (hs : List ℕ) (initial running : Bool) → Fair g q bs es hs initial running → Fair g q [] es hs initial running
fair_empty g q bs es hs initial running i = record { order = i.order; above = i.above; floor = i.floor; held = tt; reach = i.reach; capped = i.capped; under = i.under; fresh = i.fresh; opened = i.opened }

pub fair_closed : (g q bs : List Event) (es : List Edge) (hs : List ℕ) (initial running : Bool) → Fair g q bs es hs initial running → Fair g q bs es hs initial false
fair_closed g q bs es hs initial running i = record { order = i.order; above = i.above; floor = i.floor; held = i.held; reach = i.reach; capped = i.capped; under = i.under; fresh = i.fresh; opened = λ e. absurd (true≢false (sym e)) }

-- The emissions of a round, all in time, are queued.
pub fair_queued : (g q bs : List Event) (es : List Edge) (hs : List ℕ) (initial running : Bool) (k : ℕ) (ms : List Message) → All (Timely hs g) ms → Fair g q bs es hs initial running → Fair g (queue q k ms) [] es hs initial running
fair_queued g q bs es hs initial running k ms f i = record {
  order = i.order;
  above = queue_above hs g k ms q f i.above;
  floor = queue_floor hs g k ms q f i.floor;
  held = tt;
  reach = i.reach;
  capped = i.capped;
  under = i.under;
  fresh = i.fresh;
  opened = i.opened;
}

-- Every emission that passed 28 to 32 is in time.
pub timely : (s : State) (g : List Event) (mask : ℕ) (xs : List Emission) → All Ahead s.edges → Fair g s.pending s.batch s.edges s.horizons s.initial s.running → malformed s.batch mask xs ≡ false → Passed (process_rows s mask xs s.batch) → All (Timely s.horizons g) (messages xs)
timely s g mask xs l i m p =
    all_mapped (Timely s.horizons g) (λ (x : Emission). x.message) xs
    (each_emission (λ x. Timely s.horizons g x.message) (InHand s.horizons g) s mask xs m p i.held
    (λ b x h e r t k. let f = fine s g b x.message l i.reach i.capped i.under h (subst (λ (a : ℕ). Routed s a b.tick x.message) e r) in (f.floor, f.last)))
