-- The loop that decodes: what is left to store at i.
use mathlib.Core.Path.{◌≡◌, ◌∙◌}
use mathlib.Core.List.{List, ◌++◌}
use Prim.Native.Nat.{ℕ, suc, ◌+◌, ◌-◌, ◌≤◌, ◌<◌}
use native.Mathlib.Omega.{arith}
use native.Mathlib.Nat.{zero-add}
use lib.ListN.{length, set, drop}
use lib.Seq.{sets, sets-eq}
use Rattle.words.specs.Words.{tab}
use Rattle.words.proofs.Tab.{length_tab, tab_next, tab_none}

module _ (f : ℕ → ℕ) where
  unfoldable pub storing : ℕ → ℕ → List ℕ → List ℕ
  storing i n w = sets w i (tab f i (n - i))

  pub storing_more : (i n : ℕ) (w w₀ : List ℕ) (x : ℕ) → i < n → x ≡ f i → storing i n w ≡ storing 0 n w₀ → storing (i + 1) n (set w i x) ≡ storing 0 n w₀
  unfolding storing
  storing_more i n w w₀ x h p e = let s : i + 1 ≡ suc i = omega arith in rw (p, s) (rw (tab_next f i n h, s) at e)

  pub storing_end : (i n : ℕ) (w w₀ : List ℕ) → n ≤ i → n ≤ length w₀ → storing i n w ≡ storing 0 n w₀ → w ≡ tab f 0 n ++ drop n w₀
  unfolding storing
  storing_end i n w w₀ h l e =
      let z : n - 0 ≡ n = omega arith in
      let k : length (tab f 0 n) ≡ n = length_tab f 0 n in
      let g : 0 + length (tab f 0 n) ≤ length w₀ = omega arith in
      rw (tab_none f i n h, z) at e ∙ sets-eq (tab f 0 n) w₀ 0 g ∙ rw (k, zero-add)
