-- The layout by example: an event, an edge, and a payload longer than its words.
use mathlib.Core.Path.{◌≡◌, refl}
use mathlib.Core.List.{[], ◌∷◌}
use Rattle.types.specs.Value.{halves}
use Rattle.words.specs.Words.{tab, tick_at}
use Rattle.rules.specs.Base.{if◌then◌otherwise◌}
use Rattle.records.specs.Records.{payload_byte, payload_of, record_in, event_at, events_of, edge_at, edges_of}

-- Destination 1, tick 2^64 + 5, source 3, sequence 7, the payload 1, 2; past the end an event is all zeros.
one_event :
    events_of 2 (1 ∷ 1 ∷ 5 ∷ 3 ∷ 7 ∷ 2 ∷ 72623859790382856 ∷ 0 ∷ [])
    ≡ record { source = 3; destination = 1; tick = 18446744073709551621; sequence = 7; payload = 1 ∷ 2 ∷ [] }
    ∷ record { source = 0; destination = 0; tick = 0; sequence = 0; payload = [] }
    ∷ []
unfolding halves tab tick_at if◌then◌otherwise◌ payload_byte payload_of record_in event_at
one_event = refl

-- From 0 to 1, lookahead 3, bound 2^64 + 4.
one_edge : edges_of 1 (0 ∷ 1 ∷ 0 ∷ 3 ∷ 1 ∷ 4 ∷ []) ≡ record { source = 0; destination = 1; lookahead = 3; bound = 18446744073709551620 } ∷ []
unfolding halves tab tick_at edge_at
one_edge = refl

seventeen_bytes :
    payload_of 17 72623859790382856 651345242494996240
    ≡ 1 ∷ 2 ∷ 3 ∷ 4 ∷ 5 ∷ 6 ∷ 7 ∷ 8 ∷ 9 ∷ 10 ∷ 11 ∷ 12 ∷ 13 ∷ 14 ∷ 15 ∷ 16 ∷ 0 ∷ []
unfolding tab if◌then◌otherwise◌ payload_byte payload_of
seventeen_bytes = refl
