-- Parts of 11 that speak of events, each by one test.
use Rattle.std.specs.Prelude.{Bool, ◌||◌, List, ℕ, leb}
use Rattle.rules.specs.Base.{any}
use Rattle.rules.specs.State.{Event}
use Rattle.rules.specs.Foreign.{unknown_id_event, long_payload}

-- "an id not below n" or "a .. length over its limit": of one event, and of one among several.
abbrev pub invalid_event : ℕ → Event → Bool
invalid_event n e = unknown_id_event n e || long_payload e

abbrev pub any_invalid_event : ℕ → List Event → Bool
any_invalid_event n q = any (unknown_id_event n) q || any long_payload q

-- "a pending sequence not below the next one"
abbrev pub sequence_not_below : ℕ → Event → Bool
sequence_not_below next e = leb next e.sequence

abbrev pub any_sequence_not_below : ℕ → List Event → Bool
any_sequence_not_below next q = any (sequence_not_below next) q
