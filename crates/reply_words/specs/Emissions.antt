-- What the words of a reply say: emissions of eight words, as the rules' records. Reading past the end gives zeros.
use Rattle.std.specs.Prelude.{List, ℕ, ◌+◌, ◌*◌, get_or}
use Rattle.types.specs.Value.{ticks_of, lp_id_of, id_of_word}
use Rattle.words.specs.Words.{tab, tick_at}
use Rattle.rules.specs.HandBack as rules
use Rattle.records.specs.Records.{payload_of}
use Rattle.reply_words.specs.declared.Emission.{Emission}

-- The emission as the rules have it.
abbrev pub emission_of : Emission → rules.Emission
emission_of e = record {
  emitter = lp_id_of e.emitter;
  message = record { source = lp_id_of e.source; destination = lp_id_of e.destination; tick = ticks_of e.tick; payload = payload_of e.len e.payload_hi e.payload_lo };
}

-- The emission in the eight words from `at` on. Of an id word the lower half counts.
unfoldable pub emission_in : List ℕ → ℕ → rules.Emission
emission_in w at = record {
  emitter = id_of_word (get_or w at 0);
  message = record {
    source = id_of_word (get_or w (at + 1) 0);
    destination = id_of_word (get_or w (at + 2) 0);
    tick = tick_at w (at + 3);
    payload = payload_of (get_or w (at + 5) 0) (get_or w (at + 6) 0) (get_or w (at + 7) 0);
  };
}

-- Emission i, and the first n emissions.
unfoldable pub emission_at : List ℕ → ℕ → rules.Emission
emission_at w i = emission_in w (8 * i)

abbrev pub emissions_of : ℕ → List ℕ → List rules.Emission
emissions_of n w = tab (emission_at w) 0 n
