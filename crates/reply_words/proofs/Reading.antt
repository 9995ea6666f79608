-- An emission is read off its words.
use mathlib.Core.List.{List}
use mathlib.Core.Path.{◌≡◌}
use Prim.Native.Nat.{ℕ, ◌+◌}
use lib.ListN.{get_or}
use Rattle.types.specs.declared.LpId.{LpId}
use Rattle.types.specs.declared.SimTime.{SimTime}
use Rattle.types.specs.Value.{ticks_of, lp_id_of, id_of_word}
use Rattle.words.specs.Words.{tick_at}
use Rattle.records.specs.Records.{payload_of}
use Rattle.reply_words.specs.Emissions.{emission_of, emission_in}

pub emission_read : (w : List ℕ) (at : ℕ) (a b d : LpId) (t : SimTime)
    → lp_id_of a ≡ id_of_word (get_or w at 0)
    → lp_id_of b ≡ id_of_word (get_or w (at + 1) 0)
    → lp_id_of d ≡ id_of_word (get_or w (at + 2) 0)
    → ticks_of t ≡ tick_at w (at + 3)
    → emission_of (record { emitter = a; source = b; destination = d; tick = t; len = get_or w (at + 5) 0; payload_hi = get_or w (at + 6) 0; payload_lo = get_or w (at + 7) 0 }) ≡ emission_in w at
unfolding emission_in
emission_read w at a b d t p q r s = λ i. record {
  emitter = p i;
  message = record { source = q i; destination = r i; tick = s i; payload = payload_of (get_or w (at + 5) 0) (get_or w (at + 6) 0) (get_or w (at + 7) 0) };
}
