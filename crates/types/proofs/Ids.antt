-- Words that stand for ids.
use Prim.Native.Nat.{ℕ, ◌^◌, ◌<◌}
use mathlib.Core.Path.{◌≡◌}
use native.Mathlib.Nat.{mod-eq_of_lt}
use Rattle.types.specs.Value.{id_of_word}

-- A word that fits an id stands for itself.
pub id_of_small : (w : ℕ) → w < 2 ^ 32 → id_of_word w ≡ w
unfolding id_of_word
id_of_small w l = mod-eq_of_lt l
