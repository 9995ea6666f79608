-- Document 01, "Frontiers", and A.2 of document 02: the record that frontiers are read from.
use Rattle.std.specs.Prelude.{Bool, List, [], ◌∷◌, map, ℕ, min, ltb, eqb, get_or}
use Rattle.rules.specs.Base.{if◌then◌otherwise◌, Maybe, none, some, is_some, up_to, any}
use Rattle.rules.specs.State.{Event, Edge, max_tick}
use Rattle.rules.specs.Pending.{first_of}

-- "the least of H and the bounds of edges into p"
unfoldable pub least_into : List Edge → ℕ → ℕ → ℕ
least_into [] H p = H
least_into (e ∷ es) H p = if eqb e.destination p then min e.bound (least_into es H p) otherwise least_into es H p

-- A.2: "each process's least inbound bound .., and the largest tick for a process without inbound edges".
abbrev pub least_inbound : List Edge → ℕ → ℕ
least_inbound es p = least_into es max_tick p

unfoldable pub inbound_of : ℕ → List Edge → List ℕ
inbound_of n es = map (least_inbound es) (up_to n)

-- What the record m has for p.
abbrev pub recorded : List ℕ → ℕ → ℕ
recorded m p = get_or m p max_tick

-- A.2: "a frontier is read as the lesser of it and H". In document 01, "With H = accepted horizon + 1, safe(p) is the least of H and the bounds of edges into p", which is least_into;
-- on states that 11 lets pass the two are equal (proofs/Recorded.antt, safe-is-least).
unfoldable pub safe : List ℕ → ℕ → ℕ → ℕ
safe m H p = min (recorded m p) H

-- "p's first event is eligible exactly when its tick < safe(p)."
unfoldable pub below : ℕ → Maybe Event → Maybe Event
below k none = none
below k (some e) = if ltb e.tick k then some e otherwise none

unfoldable pub eligible : List ℕ → ℕ → List Event → ℕ → Maybe Event
eligible m H q p = below (safe m H p) (first_of q p)

-- "an event is eligible": of one of the processes ps.
unfoldable pub any_eligible : List ℕ → ℕ → List Event → List ℕ → Bool
any_eligible m H q ps = any (λ p. is_some (eligible m H q p)) ps
