-- What flat words say: events of eight words and edges of six, as the rules' records. Reading past the end gives zeros.
use Rattle.std.specs.Prelude.{List, [], ◌∷◌, ◌++◌, ℕ, ◌+◌, ◌-◌, ◌*◌, ◌^◌, ◌/◌, ◌%◌, ◌<◌, ltb, get_or, take, drop}
use Rattle.types.specs.Value.{halves}
use Rattle.words.specs.Words.{tab, tick_at}
use Rattle.rules.specs.Base.{if◌then◌otherwise◌}
use Rattle.rules.specs.State.{Event, Edge}
use Rattle.records.specs.declared.Record.{Record}

-- Byte k of a word, the first byte highest.
abbrev pub byte_of : ℕ → ℕ → ℕ
byte_of x k = x / 256 ^ (7 - k) % 256

-- Byte k of two words, and 0 behind the 16th.
unfoldable pub payload_byte : ℕ → ℕ → ℕ → ℕ
payload_byte upper lower k =
    if ltb k 8 then byte_of upper k
    otherwise if ltb k 16 then byte_of lower (k - 8)
    otherwise 0

-- A payload of the length that a record says.
unfoldable pub payload_of : ℕ → ℕ → ℕ → List ℕ
payload_of len upper lower = tab (payload_byte upper lower) 0 len

-- The event of eight words.
abbrev pub event_of : Record → Event
event_of r = record {
  source = r.source;
  destination = r.destination;
  tick = halves r.hi r.lo;
  sequence = r.sequence;
  payload = payload_of r.len r.payload_hi r.payload_lo;
}

-- The eight words from `at` on, and those of a record stored there.
unfoldable pub record_in : List ℕ → ℕ → Record
record_in w at = record {
  destination = get_or w at 0;
  hi = get_or w (at + 1) 0;
  lo = get_or w (at + 2) 0;
  source = get_or w (at + 3) 0;
  sequence = get_or w (at + 4) 0;
  len = get_or w (at + 5) 0;
  payload_hi = get_or w (at + 6) 0;
  payload_lo = get_or w (at + 7) 0;
}

abbrev pub words_of : Record → List ℕ
words_of r = r.destination ∷ r.hi ∷ r.lo ∷ r.source ∷ r.sequence ∷ r.len ∷ r.payload_hi ∷ r.payload_lo ∷ []

unfoldable pub put_record : List ℕ → ℕ → Record → List ℕ
put_record w at r = take at w ++ (words_of r ++ drop (at + 8) w)

-- Event i, and the first n events.
unfoldable pub event_at : List ℕ → ℕ → Event
event_at w i = event_of (record_in w (8 * i))

abbrev pub events_of : ℕ → List ℕ → List Event
events_of n w = tab (event_at w) 0 n

-- Each of the first n events is of a process that has a place in a table of 64.
unfoldable pub Owners : ℕ → List ℕ → Type 0
Owners n w = (i : ℕ) → i < n → (event_at w i).destination < 64

-- Edge i, six words: source, destination, lookahead, bound; and the first n edges.
unfoldable pub edge_at : List ℕ → ℕ → Edge
edge_at w i = record { source = get_or w (6 * i) 0; destination = get_or w (6 * i + 1) 0; lookahead = tick_at w (6 * i + 2); bound = tick_at w (6 * i + 4) }

abbrev pub edges_of : ℕ → List ℕ → List Edge
edges_of n w = tab (edge_at w) 0 n
