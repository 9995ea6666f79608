-- What the leaves over the record ask and leave, in the words of the rules.
use Rattle.std.specs.Prelude.{◌≡◌, ◌≢◌, List, ℕ, ◌+◌, ◌<◌, min}
use Rattle.words.specs.Words.{tick_of, inbound_at}
use Rattle.records.specs.Records.{edge_at}
use Rattle.rules.specs.State.{Edge}
use Rattle.rules.specs.Frontiers.{least_inbound}

-- "a frontier is read as the lesser of it and H"
abbrev pub frontier_in : List ℕ → ℕ → ℕ → ℕ
frontier_in w H p = min (inbound_at w p) H

-- From w to u, the edge e went on record, and no other tick changed.
pub record LowersInbound (e : Edge) (w u : List ℕ) : Type 0 where
  pub here : inbound_at u e.destination ≡ min e.bound (inbound_at w e.destination)
  pub others : (k : ℕ) → k ≢ 64 + e.destination → tick_of u k ≡ tick_of w k

-- From w to u, the least inbound bounds of n processes are those of the edges es; the local horizons stay.
pub record RecordsInbound (n : ℕ) (es : List Edge) (w u : List ℕ) : Type 0 where
  pub inbound : (p : ℕ) → p < n → inbound_at u p ≡ least_inbound es p
  pub horizons : (p : ℕ) → p < 64 → tick_of u p ≡ tick_of w p

-- The destination of each of the first m edges is one of n processes.
unfoldable pub Destinations : ℕ → ℕ → List ℕ → Type 0
Destinations n m w = (i : ℕ) → i < m → (edge_at w i).destination < n
