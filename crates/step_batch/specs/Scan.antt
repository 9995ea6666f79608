-- What the pass that takes the batch asks and leaves.
use Rattle.std.specs.Prelude.{◌≡◌, ◌≢◌, true, false, List, ℕ, ◌+◌, ◌-◌, ◌*◌, ◌≤◌, ◌<◌, length, get_or}
use Rattle.records.specs.Records.{event_at, events_of}
use Rattle.step_batch.specs.ScanRule.{takes, seen_by, scan}
use Rattle.step_batch.specs.declared.BatchScan.{BatchScan}

-- Words u are those of w from word k on.
unfoldable pub SameFrom : ℕ → List ℕ → List ℕ → Type 0
SameFrom k u w = (j : ℕ) → k ≤ j → get_or u j 0 ≡ get_or w j 0

-- Before event i.
pub record Scannable (i : ℕ) (w processes b : List ℕ) (s : BatchScan) : Type 0 where
  pub index : i < 512
  pub kept : s.kept ≤ i
  pub taken : s.taken ≤ s.seen
  pub owner : (event_at w i).destination < 64
  pub words : length w ≡ 4096
  pub table : length processes ≡ 256
  pub places : length b ≡ 512

-- After event i of w, where safe p is the frontier of process p: the pending words are u and the batch's are c.
pub record EventScanned (i : ℕ) (safe : ℕ → ℕ) (w b u c : List ℕ) (s r : BatchScan) : Type 0 where
  pub seen : r.seen ≡ seen_by s.seen (event_at w i)
  pub when_taken : takes safe s.room s.seen (event_at w i) ≡ true
      → (u ≡ w) × (r.kept ≡ s.kept) × (r.taken ≡ s.taken + 1) × (r.room ≡ s.room - 1) × (event_at c s.taken ≡ event_at w i) × ((k : ℕ) → k ≢ s.taken → event_at c k ≡ event_at b k) × SameFrom (8 * s.taken + 8) c b
  pub when_kept : takes safe s.room s.seen (event_at w i) ≡ false
      → (c ≡ b) × (r.kept ≡ s.kept + 1) × (r.taken ≡ s.taken) × (r.room ≡ s.room) × (event_at u s.kept ≡ event_at w i) × ((k : ℕ) → k ≢ s.kept → event_at u k ≡ event_at w k) × SameFrom (8 * s.kept + 8) u w

-- The pass over n events of w, with a batch of words b before it: u and c are the words after it.
pub record TakesBatch (n : ℕ) (safe : ℕ → ℕ) (room : ℕ) (w b u c : List ℕ) (r : BatchScan) : Type 0 where
  pub events : events_of r.taken c ≡ (scan safe room 0 (events_of n w)).events
  pub left : events_of r.kept u ≡ (scan safe room 0 (events_of n w)).left
  pub counts : r.kept + r.taken ≡ n
  pub beyond : SameFrom (8 * n) u w
  pub behind : SameFrom (8 * r.taken) c b
