-- The emission lemma: a message that passed 28 to 32 is in time, without check 33.
use mathlib.Core.Path.{◌≡◌, refl, sym, ap, ◌∙◌}
use mathlib.Core.Bool.{Bool, true, false, ◌||◌, true≢false}
use mathlib.Core.List.{List, [], ◌∷◌}
use Prim.Native.Nat.{ℕ, ◌+◌, ◌≤◌, ◌<◌}
use native.Mathlib.Omega.{arith}
use lib.Dec.{eqb}
use lib.ListN.{get_or}
use borrow.Author.Tests.{eqb-true, eqb-false, ne_eqb}
use Rattle.rules.specs.Base.{if◌then◌otherwise◌, any}
use Rattle.rules.specs.State.{Event, Message, Edge, State}
use Rattle.rules.specs.Pending.{joins, route, lookahead_along}
use Rattle.rules.specs.HandBack.{minimum}
use Rattle.rules.proofs.Tests.{by_bool, or_else, and_left, and_right}
use Rattle.rules.proofs.Lists.{All, all_map, all_both}
use Rattle.rules.proofs.Shape.{Ahead}
use Rattle.rules.proofs.Checks.{along, Routed}
use Rattle.rules.proofs.Fair.{Reach, Capped, Under, Le, InHand, Fine}

to_itself : (L p t : ℕ) (m : Message) → eqb m.destination p ≡ true → minimum L p t m ≡ t
unfolding minimum if◌then◌otherwise◌
to_itself L p t m e = rw e

to_another : (L p t : ℕ) (m : Message) → eqb m.destination p ≡ false → minimum L p t m ≡ t + L
unfolding minimum if◌then◌otherwise◌
to_another L p t m e = rw e

along_edge : (es : List Edge) (p d : ℕ) → (d ≡ p → ⊥) → route es p d ≡ true → any (joins p d) es ≡ true
unfolding route
along_edge es p d n h = or_else (eqb p d) (any (joins p d) es) (ne_eqb p d (λ e. n (sym e))) h

-- The edge whose lookahead counts is one that leads there.
along_some : {C : Type 0} (a d : ℕ) (es : List Edge) → any (joins a d) es ≡ true → All (λ (k : Edge). joins a d k ≡ true → k.lookahead ≡ lookahead_along es a d → C) es → C
unfolding any lookahead_along if◌then◌otherwise◌
along_some a d [] h i = absurd (true≢false (sym h))
along_some {C} a d (e ∷ es) h i = go (joins a d e) refl h i.0 i.1 (along_some a d es)
  where
    go : (t : Bool) → joins a d e ≡ t → t || any (joins a d) es ≡ true → (joins a d e ≡ true → e.lookahead ≡ (if t then e.lookahead otherwise lookahead_along es a d) → C)
        → All (λ (k : Edge). joins a d k ≡ true → k.lookahead ≡ (if t then e.lookahead otherwise lookahead_along es a d) → C) es
        → (any (joins a d) es ≡ true → All (λ (k : Edge). joins a d k ≡ true → k.lookahead ≡ lookahead_along es a d → C) es → C) → C
    go true j h f r ih = f j refl
    go false j h f r ih = ih h r

-- Along an edge: at or above its bound.
over_bound : (s : State) (b : Event) (m : Message) → All (Reach s.horizons) s.edges → get_or s.horizons b.destination 0 ≤ b.tick → any (joins b.destination m.destination) s.edges ≡ true → b.tick + along s b.destination m ≤ m.tick
    → {C : Type 0} → All (λ (k : Edge). k.destination ≡ m.destination → k.bound ≤ m.tick → C) s.edges → C
over_bound s b m r f e l {C} i =
    along_some b.destination m.destination s.edges e
    (all_map (λ k. Reach s.horizons k × (k.destination ≡ m.destination → k.bound ≤ m.tick → C)) (λ k. joins b.destination m.destination k ≡ true → k.lookahead ≡ along s b.destination m → C)
    (λ k v j q.
    let x : k.source ≡ b.destination = eqb-true k.source b.destination (and_left _ (eqb k.destination m.destination) j) in
    let z : get_or s.horizons k.source 0 ≡ get_or s.horizons b.destination 0 = ap (λ (a : ℕ). get_or s.horizons a 0) x in
    v.1 (eqb-true k.destination m.destination (and_right (eqb k.source b.destination) _ j)) (omega (arith, v.0)))
    s.edges (all_both (Reach s.horizons) (λ k. k.destination ≡ m.destination → k.bound ≤ m.tick → C) s.edges r i))

module _ (s : State) (g : List Event) (b : Event) (m : Message) (ahead : All Ahead s.edges) (reach : All (Reach s.horizons) s.edges) (capped : All (Capped s.horizons) s.edges)
    (under : All (Under s.edges) g) (hand : InHand s.horizons g b) (r : Routed s b.destination b.tick m) where
  own_fine : eqb m.destination b.destination ≡ true → Fine s.horizons g b.destination b.tick m
  own_fine e =
      let d : m.destination ≡ b.destination = eqb-true m.destination b.destination e in
      let l : b.tick ≤ m.tick = omega (arith, r.least, to_itself (along s b.destination m) b.destination b.tick m e) in
      let z : get_or s.horizons m.destination 0 ≡ get_or s.horizons b.destination 0 = ap (λ (a : ℕ). get_or s.horizons a 0) d in
      record {
        floor = omega (arith, hand.floor);
        last = all_map (λ x. Le x b) (λ (x : Event). x.destination ≡ m.destination → x.tick ≤ m.tick) (λ x k y. omega (arith, k (y ∙ d))) g hand.last;
        later = λ n. absurd (n d);
        beyond = λ n. absurd (n d);
      }

  other_fine : eqb m.destination b.destination ≡ false → Fine s.horizons g b.destination b.tick m
  other_fine e =
      let n : (m.destination ≡ b.destination → ⊥) = eqb-false m.destination b.destination e in
      let l : b.tick + along s b.destination m ≤ m.tick = omega (arith, r.least, to_another (along s b.destination m) b.destination b.tick m e) in
      let k : any (joins b.destination m.destination) s.edges ≡ true = along_edge s.edges b.destination m.destination n r.route in
      let far : All (λ (x : Event). x.destination ≡ m.destination → x.tick < m.tick) g =
      all_map (Under s.edges) (λ (x : Event). x.destination ≡ m.destination → x.tick < m.tick)
      (λ x u y. over_bound s b m reach hand.floor k l (all_map (λ (f : Edge). f.destination ≡ x.destination → x.tick < f.bound) (λ (f : Edge). f.destination ≡ m.destination → f.bound ≤ m.tick → x.tick < m.tick) (λ f v a c. omega (arith, v (a ∙ sym y))) s.edges u)) g under in
      record {
        floor = over_bound s b m reach hand.floor k l (all_map (Capped s.horizons) (λ (f : Edge). f.destination ≡ m.destination → f.bound ≤ m.tick → get_or s.horizons m.destination 0 ≤ m.tick) (λ f v a c. let z : get_or s.horizons f.destination 0 ≡ get_or s.horizons m.destination 0 = ap (λ (q : ℕ). get_or s.horizons q 0) a in omega (arith, v)) s.edges capped);
        last = all_map (λ (x : Event). x.destination ≡ m.destination → x.tick < m.tick) (λ (x : Event). x.destination ≡ m.destination → x.tick ≤ m.tick) (λ x v y. omega (arith, v y)) g far;
        later = λ _. along_some b.destination m.destination s.edges k (all_map Ahead (λ f. joins b.destination m.destination f ≡ true → f.lookahead ≡ along s b.destination m → b.tick < m.tick) (λ f v _ q. omega arith) s.edges ahead);
        beyond = λ _. far;
      }

  pub fine : Fine s.horizons g b.destination b.tick m
  fine = by_bool (eqb m.destination b.destination) own_fine other_fine
