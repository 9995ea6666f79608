-- The passes of 11 over events: an event is tested by its record, and two tests take one pass.
use mathlib.Core.Path.{◌≡◌, refl, ap, ◌∙◌}
use mathlib.Core.Bool.{Bool, true, false, ◌||◌}
use mathlib.Core.List.{List, [], ◌∷◌}
use Prim.Native.Nat.{ℕ, ◌≤◌, ◌<◌}
use lib.Dec.{ltb}
use borrow.Author.Tests.{le-leb, lt-leb}
use Rattle.rules.specs.Base.{any}
use Rattle.records.specs.Records.{event_of}
use Rattle.records.specs.declared.Record.{Record}
use Rattle.records.proofs.Stored.{length_payload}
use Rattle.foreign_events.specs.Clauses.{invalid_event}

-- Each return of the test of one event.
module _ (n : ℕ) (r : Record) where
  pub invalid_source : n ≤ r.source → true ≡ invalid_event n (event_of r)
  invalid_source a = rw (le-leb n r.source a)

  module _ (a : r.source < n) where
    pub invalid_destination : n ≤ r.destination → true ≡ invalid_event n (event_of r)
    invalid_destination b = rw (lt-leb n r.source a, le-leb n r.destination b)

    pub invalid_length : r.destination < n → ltb 16 r.len ≡ invalid_event n (event_of r)
    invalid_length b = rw (lt-leb n r.source a, lt-leb n r.destination b, length_payload)

-- Two tests of each are one.
shuffle : (a b c d : Bool) → (a || b) || (c || d) ≡ (a || c) || (b || d)
shuffle true b c d = refl
shuffle false true true d = refl
shuffle false true false d = refl
shuffle false false c d = refl

pub any_or : {A : Type 0} (f g : A → Bool) (xs : List A) → any (λ x. f x || g x) xs ≡ any f xs || any g xs
unfolding any
any_or f g [] = refl
any_or f g (x ∷ xs) = ap (λ b. (f x || g x) || b) (any_or f g xs) ∙ shuffle (f x) (g x) (any f xs) (any g xs)
