-- The layout and the table by example.
use mathlib.Core.Path.{◌≡◌, refl}
use mathlib.Core.List.{[], ◌∷◌}
use Rattle.types.specs.Value.{halves, id_of_word}
use Rattle.words.specs.Words.{tab, tick_at}
use Rattle.rules.specs.Base.{if◌then◌otherwise◌}
use Rattle.records.specs.Records.{payload_byte, payload_of, record_in, event_at, events_of}
use Rattle.reply_words.specs.Emissions.{emission_in, emission_at, emissions_of}
use Rattle.reply_words.specs.Replies.{place_from}

-- Emitter 3, source 3, destination 1 (of the word 2^32 + 1), tick 2^64 + 5, the payload 1, 2.
one_emission :
    emissions_of 1 (3 ∷ 3 ∷ 4294967297 ∷ 1 ∷ 5 ∷ 2 ∷ 72623859790382856 ∷ 0 ∷ [])
    ≡ record { emitter = 3; message = record { source = 3; destination = 1; tick = 18446744073709551621; payload = 1 ∷ 2 ∷ [] } }
    ∷ []
unfolding halves id_of_word tab tick_at if◌then◌otherwise◌ payload_byte payload_of emission_in emission_at
one_emission = refl

-- Process 4 has the second event, and process 2 has none.
second_place : place_from 0 (events_of 2 (1 ∷ 0 ∷ 0 ∷ 0 ∷ 0 ∷ 0 ∷ 0 ∷ 0 ∷ 4 ∷ 0 ∷ 0 ∷ 0 ∷ 0 ∷ 0 ∷ 0 ∷ 0 ∷ [])) 4 ≡ 2
unfolding tab if◌then◌otherwise◌ record_in event_at place_from
second_place = refl

no_place : place_from 0 (events_of 2 (1 ∷ 0 ∷ 0 ∷ 0 ∷ 0 ∷ 0 ∷ 0 ∷ 0 ∷ 4 ∷ 0 ∷ 0 ∷ 0 ∷ 0 ∷ 0 ∷ 0 ∷ 0 ∷ [])) 2 ≡ 0
unfolding tab if◌then◌otherwise◌ record_in event_at place_from
no_place = refl
