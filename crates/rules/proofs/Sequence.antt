-- From the list of all events handed out, the last first, to what each process was handed, in order.
use mathlib.Core.Path.{◌≡◌, refl, sym, ap, ◌∙◌}
use mathlib.Core.Bool.{Bool, true, false}
use mathlib.Core.List.{List, [], ◌∷◌, ◌++◌, map, append_assoc}
use Prim.Native.Nat.{ℕ, ◌≤◌}
use lib.Dec.{eqb}
use borrow.Author.Tests.{eqb-true}
use Rattle.rules.specs.Base.{if◌then◌otherwise◌}
use Rattle.rules.specs.State.{Event}
use Rattle.rules.specs.History.{Entry, events, events_at, handed_to}
use Rattle.rules.specs.Demand.{Nondecreasing}
use Rattle.rules.proofs.Lists.{All, all_map}
use Rattle.rules.proofs.Fair.{Le}
use Rattle.rules.proofs.Handed.{handed_on, given, Ordered}

-- `handed_on es g` has es in front of g, the last first; handing it on again brings it back.
on_append : (ys zs : List Event) → handed_on ys zs ≡ handed_on ys [] ++ zs
on_append [] zs = refl
on_append (y ∷ ys) zs = on_append ys (y ∷ zs) ∙ sym (ap (λ (l : List Event). l ++ zs) (on_append ys (y ∷ [])) ∙ append_assoc (handed_on ys []) (y ∷ []) zs)

on_back : (xs ys : List Event) → handed_on (handed_on xs ys) [] ≡ handed_on ys [] ++ xs
on_back [] ys = sym (append_nil (handed_on ys []))
  where
    append_nil : (l : List Event) → l ++ [] ≡ l
    append_nil [] = refl
    append_nil (e ∷ l) = ap (λ (m : List Event). e ∷ m) (append_nil l)
on_back (x ∷ xs) ys = on_back xs (x ∷ ys) ∙ ap (λ (l : List Event). l ++ xs) (on_append ys (x ∷ [])) ∙ append_assoc (handed_on ys []) (x ∷ []) xs

-- The events of p among them.
at_on : (p : ℕ) (es g : List Event) → events_at p (handed_on es g) ≡ handed_on (events_at p es) (events_at p g)
unfolding events_at if◌then◌otherwise◌
at_on p [] g = refl
at_on p (e ∷ es) g = at_on p es (e ∷ g) ∙ go (eqb e.destination p)
  where
    go : (t : Bool) → handed_on (events_at p es) (if t then e ∷ events_at p g otherwise events_at p g) ≡ handed_on (if t then e ∷ events_at p es otherwise events_at p es) (events_at p g)
    go true = refl
    go false = refl

handed_given : (p : ℕ) (es : List Entry) → handed_to p es ≡ handed_on (events_at p (given es)) []
unfolding handed_to given events_at
handed_given p [] = refl
handed_given p (e ∷ es) =
    ap (λ (l : List Event). l ++ events_at p (events e.answer)) (handed_given p es)
    ∙ sym (ap (λ (l : List Event). handed_on l []) (at_on p (events e.answer) (given es)) ∙ on_back (events_at p (events e.answer)) (events_at p (given es)))

-- Ticks that do not rise from the last to the first.
abbrev Falling : List Event → Type 0
Falling [] = Unit {0}
Falling (e ∷ g) = All (λ (d : Event). d.tick ≤ e.tick) g × Falling g

at_all : (P : Event → Type 0) (p : ℕ) (g : List Event) → All P g → All (λ (d : Event). (d.destination ≡ p) × P d) (events_at p g)
unfolding events_at if◌then◌otherwise◌
at_all P p [] i = tt
at_all P p (e ∷ g) i = go (eqb e.destination p) refl (at_all P p g i.1)
  where
    go : (t : Bool) → eqb e.destination p ≡ t → All (λ (d : Event). (d.destination ≡ p) × P d) (events_at p g) → All (λ (d : Event). (d.destination ≡ p) × P d) (if t then e ∷ events_at p g otherwise events_at p g)
    go true h r = ((eqb-true e.destination p h, i.0), r)
    go false h r = r

falling : (p : ℕ) (g : List Event) → Ordered g → Falling (events_at p g)
unfolding events_at if◌then◌otherwise◌
falling p [] o = tt
falling p (e ∷ g) o = go (eqb e.destination p) refl (falling p g o.1)
  where
    go : (t : Bool) → eqb e.destination p ≡ t → Falling (events_at p g) → Falling (if t then e ∷ events_at p g otherwise events_at p g)
    go true h r = (all_map (λ (d : Event). (d.destination ≡ p) × Le d e) (λ (d : Event). d.tick ≤ e.tick) (λ d k. k.1 (k.0 ∙ sym (eqb-true e.destination p h))) (events_at p g) (at_all (λ d. Le d e) p g o.0), r)
    go false h r = r

ticks : List Event → List ℕ
ticks es = map (λ (e : Event). e.tick) es

-- Turned round they do not fall: acc is what was turned already, and nothing left is above its first.
abbrev Below : List Event → List Event → Type 0
Below o [] = Unit {0}
Below o (x ∷ acc) = All (λ (d : Event). d.tick ≤ x.tick) o

cons_up : (e : Event) (acc : List Event) → Below (e ∷ []) acc → Nondecreasing (ticks acc) → Nondecreasing (ticks (e ∷ acc))
unfolding ticks
cons_up e [] b n = tt
cons_up e (x ∷ acc) b n = (b.0, n)

below_rest : (e : Event) (o acc : List Event) → Below (e ∷ o) acc → Below (e ∷ []) acc
below_rest e o [] b = tt
below_rest e o (x ∷ acc) b = (b.0, tt)

turned : (o acc : List Event) → Falling o → Below o acc → Nondecreasing (ticks acc) → Nondecreasing (ticks (handed_on o acc))
turned [] acc f b n = n
turned (e ∷ o) acc f b n = turned o (e ∷ acc) f.1 f.0 (cons_up e acc (below_rest e o acc b) n)

pub in_order : (p : ℕ) (es : List Entry) → Ordered (given es) → Nondecreasing (map (λ (e : Event). e.tick) (handed_to p es))
unfolding ticks
in_order p es o = rw (handed_given p es) (turned (events_at p (given es)) [] (falling p (given es) o) tt tt)
