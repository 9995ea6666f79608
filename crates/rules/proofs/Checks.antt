-- What the checks of a hand back tell of each emission that passed them.
use mathlib.Core.Path.{◌≡◌, refl, sym}
use mathlib.Core.Bool.{Bool, true, false, not, ◌&&◌}
use mathlib.Core.List.{List, [], ◌∷◌, ◌++◌}
use Prim.Native.Nat.{ℕ, ◌≤◌, ◌<◌}
use lib.Dec.{ltb, eqb}
use lib.ListN.{length, get_or}
use borrow.Author.Tests.{leb-false, ltb-false, eqb-true, eqb-false}
use Rattle.rules.specs.Base.{if◌then◌otherwise◌, any, any_of, up_to}
use Rattle.rules.specs.State.{Event, Message, State}
use Rattle.rules.specs.Rows.{Row}
use Rattle.rules.specs.Pending.{route, lookahead_along}
use Rattle.rules.specs.HandBack.{Emission, failed, emitters_fall, in_batch, malformed, minimum, message_rows, straggler_row, emission_rows, process_rows}
use Rattle.rules.proofs.Tests.{not_false}
use Rattle.rules.proofs.Lists.{All, all_map, all_both, all_front, all_rest, all_swap, any_none, any_some}
use Rattle.rules.proofs.Table.{Passed}

-- The lookahead of the edge that a message of p goes along.
abbrev pub along : State → ℕ → Message → ℕ
along s p m = lookahead_along s.edges p m.destination

-- 28 to 32.
pub record Routed (s : State) (p t : ℕ) (m : Message) : Type 0 where
  pub own : m.source ≡ p
  pub known : m.destination < s.n
  pub route : route s.edges p m.destination ≡ true
  pub least : minimum (along s p m) p t m ≤ m.tick

-- 33.
abbrev pub InTime : State → Message → Type 0
InTime s m = get_or s.horizons m.destination 0 ≤ m.tick

pub routed : (s : State) (p t : ℕ) (m : Message) → Passed (message_rows s.n (route s.edges) (along s p m) p t m) → Routed s p t m
routed s p t m i = record {
  own = eqb-true m.source p (not_false (eqb m.source p) i.0);
  known = leb-false s.n m.destination i.1.0;
  route = not_false (route s.edges p m.destination) i.1.1.0;
  least = ltb-false m.tick (minimum (along s p m) p t m) i.1.1.1.1.0;
}

-- Of the emissions of the event b in hand.
abbrev pub Checked : State → Event → Emission → Type 0
Checked s b x = x.emitter ≡ b.destination → Routed s x.emitter b.tick x.message × InTime s x.message

checked_emissions : (s : State) (b : Event) (xs : List Emission) → Passed (emission_rows s b xs) → All (Checked s b) xs
unfolding emission_rows if◌then◌otherwise◌
checked_emissions s b [] i = tt
checked_emissions s b (x ∷ xs) i = go (eqb x.emitter b.destination) refl i (checked_emissions s b xs)
  where
    go : (t : Bool) → eqb x.emitter b.destination ≡ t → Passed (if t then (message_rows s.n (route s.edges) (along s x.emitter x.message) x.emitter b.tick x.message ++ (straggler_row s x.message ∷ emission_rows s b xs)) otherwise emission_rows s b xs)
        → (Passed (emission_rows s b xs) → All (Checked s b) xs) → All (Checked s b) (x ∷ xs)
    go true e i ih = ((λ _. (routed s x.emitter b.tick x.message (i.0, (i.1.0, (i.1.1.0, (i.1.1.1.0, (i.1.1.1.1.0, tt))))), ltb-false _ _ i.1.1.1.1.1.0)), ih i.1.1.1.1.1.1)
    go false e i ih = ((λ h. absurd (eqb-false x.emitter b.destination e h)), ih i)

checked_processes : (s : State) (mask : ℕ) (xs : List Emission) (bs : List Event) → Passed (process_rows s mask xs bs) → All (λ (b : Event). All (Checked s b) xs) bs
unfolding process_rows
checked_processes s mask xs [] i = tt
checked_processes s mask xs (b ∷ bs) i = (
  checked_emissions s b xs (all_front (λ (r : Row). r.test ≡ false) (emission_rows s b xs) (process_rows s mask xs bs) i.1),
  checked_processes s mask xs bs (all_rest (λ (r : Row). r.test ≡ false) (emission_rows s b xs) (process_rows s mask xs bs) i.1),
)

-- What is not malformed: every emitter is in the batch, and no payload is too long.
pub record Formed (batch : List Event) (x : Emission) : Type 0 where
  pub emitter : in_batch batch x.emitter ≡ true
  pub payload : length x.message.payload ≤ 16

pub formed : (batch : List Event) (mask : ℕ) (xs : List Emission) → malformed batch mask xs ≡ false → All (Formed batch) xs
unfolding malformed any_of
formed batch mask xs h =
    let c = any_none (λ (t : Bool). t) (emitters_fall xs ∷ any (λ (x : Emission). not (in_batch batch x.emitter)) xs ∷ any (λ p. failed mask p && not (in_batch batch p)) (up_to 64) ∷ any (λ (x : Emission). failed mask x.emitter) xs ∷ any (λ (x : Emission). ltb 16 (length x.message.payload)) xs ∷ []) h in
    let a = any_none (λ (x : Emission). not (in_batch batch x.emitter)) xs c.1.0 in
    let b = any_none (λ (x : Emission). ltb 16 (length x.message.payload)) xs c.1.1.1.1.0 in
    all_map (λ x. (not (in_batch batch x.emitter) ≡ false) × (ltb 16 (length x.message.payload) ≡ false)) (Formed batch)
    (λ x i. record { emitter = not_false _ i.0; payload = ltb-false 16 _ i.1 }) xs
    (all_both (λ x. not (in_batch batch x.emitter) ≡ false) (λ x. ltb 16 (length x.message.payload) ≡ false) xs a b)

-- The batch's event of an emitter.
find_event : {C : Type 0} (batch : List Event) (p : ℕ) → in_batch batch p ≡ true → All (λ (b : Event). p ≡ b.destination → C) batch → C
unfolding in_batch
find_event {C} batch p h i = any_some (λ (b : Event). eqb b.destination p) batch h (all_map (λ (b : Event). p ≡ b.destination → C) (λ (b : Event). eqb b.destination p ≡ true → C) (λ b f e. f (sym (eqb-true b.destination p e))) batch i)

-- From what is known of each event in hand to what holds of each emission.
pub each_emission : (C : Emission → Type 0) (Q : Event → Type 0) (s : State) (mask : ℕ) (xs : List Emission) → malformed s.batch mask xs ≡ false → Passed (process_rows s mask xs s.batch) → All Q s.batch
    → ((b : Event) (x : Emission) → Q b → x.emitter ≡ b.destination → Routed s x.emitter b.tick x.message → InTime s x.message → length x.message.payload ≤ 16 → C x) → All C xs
each_emission C Q s mask xs m p i f =
    all_map (λ x. Formed s.batch x × All (λ (b : Event). Q b × Checked s b x) s.batch) C
    (λ x k. find_event s.batch x.emitter k.0.emitter (all_map (λ (b : Event). Q b × Checked s b x) (λ (b : Event). x.emitter ≡ b.destination → C x) (λ b v e. let w = v.1 e in f b x v.0 e w.0 w.1 k.0.payload) s.batch k.1))
    xs
    (all_both (Formed s.batch) (λ x. All (λ (b : Event). Q b × Checked s b x) s.batch) xs (formed s.batch mask xs m)
    (all_swap (λ b x. Q b × Checked s b x) xs s.batch
    (all_map (λ (b : Event). Q b × All (Checked s b) xs) (λ (b : Event). All (λ x. Q b × Checked s b x) xs) (λ b v. all_map (Checked s b) (λ x. Q b × Checked s b x) (λ x w. (v.0, w)) xs v.1) s.batch
    (all_both Q (λ (b : Event). All (Checked s b) xs) s.batch i (checked_processes s mask xs s.batch p)))))
