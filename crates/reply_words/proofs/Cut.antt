-- The words of the first emissions, cut out, are the same emissions.
use mathlib.Core.Path.{◌≡◌}
use mathlib.Core.List.{List}
use Prim.Native.Nat.{ℕ, ◌+◌, ◌*◌, ◌<◌}
use native.Mathlib.Omega.{arith}
use lib.ListN.{get_or, take}
use lib.Seq.{get_or-take}
use Rattle.types.specs.Value.{halves, id_of_word}
use Rattle.words.specs.Words.{tick_at}
use Rattle.words.proofs.Tab.{tab_cong}
use Rattle.records.specs.Records.{payload_of}
use Rattle.reply_words.specs.Emissions.{emission_in, emission_at, emissions_of}

module _ (w : List ℕ) (n i : ℕ) (l : i < n) where
  word : (j : ℕ) → j < 8 → get_or (take (8 * n) w) (8 * i + j) 0 ≡ get_or w (8 * i + j) 0
  word j h = get_or-take (8 * n) w (8 * i + j) 0 (omega arith)

  emission_cut : emission_at (take (8 * n) w) i ≡ emission_at w i
  unfolding emission_at emission_in tick_at
  emission_cut = λ k. record {
    emitter = id_of_word (get_or-take (8 * n) w (8 * i) 0 (omega arith) k);
    message = record {
      source = id_of_word (word 1 (omega arith) k);
      destination = id_of_word (word 2 (omega arith) k);
      tick = halves (word 3 (omega arith) k) (get_or-take (8 * n) w (8 * i + 3 + 1) 0 (omega arith) k);
      payload = payload_of (word 5 (omega arith) k) (word 6 (omega arith) k) (word 7 (omega arith) k);
    };
  }

pub emissions_cut : (w : List ℕ) (n : ℕ) → emissions_of n (take (8 * n) w) ≡ emissions_of n w
emissions_cut w n = tab_cong _ _ 0 n (λ k a b. emission_cut w n k (omega arith))
