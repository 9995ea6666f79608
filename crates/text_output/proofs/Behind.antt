-- A text copied behind the first bytes of a buffer, through a part that reaches to its end.
use mathlib.Core.Path.{◌≡◌, sym, ap, ◌∙◌}
use mathlib.Core.List.{List, ◌++◌, append-nil, append_assoc}
use Prim.Native.Nat.{ℕ, ◌+◌, ◌-◌, ◌≤◌}
use native.Mathlib.Omega.{arith}
use lib.ListN.{length, take, drop, length-append, length-drop, drop_of_length-le}
use lib.Seq.{take_all, take-length, take_at, length-take-le, take-append_seam}
use borrow.Rule.Slice.PartMut.{mid_of, put_mid}

tail_back : (a : ℕ) (w t : List ℕ) → put_mid a (length w - a) w t ≡ take a w ++ t
tail_back a w t =
    let h : length (drop a w) ≤ length w - a = simp length-drop (omega arith) in
    rw (drop_of_length-le (drop a w) h, append-nil)

-- What is there once t, the text and what it left of the part p, is back.
module _ (a : ℕ) (w text t p : List ℕ) (le : a ≤ length w) (e : t ≡ take (length text) text ++ drop (length text) p) where
  pub in_use : take (a + length text) (put_mid a (length w - a) w t) ≡ take a w ++ text
  in_use =
      let f : length (take a w ++ text) ≡ a + length text = length-append (take a w) text ∙ ap (λ k. k + length text) (length-take-le a w le) in
      ap (λ (l : List ℕ). take (a + length text) l)
      (tail_back a w t ∙ ap (λ (l : List ℕ). take a w ++ l) (e ∙ ap (λ (l : List ℕ). l ++ drop (length text) p) (take-length text)) ∙ sym (append_assoc (take a w) text _)) ∙
      take_at (take a w ++ text) _ (a + length text) f

-- Two texts, one behind the other: u is the buffer with the first at its front.
pub join_both : (first second out u t : List ℕ) (j k : ℕ) → length second ≡ 16 → length first + 16 ≤ length out → length u ≡ length out → j ≡ length first
    → u ≡ take (length first) first ++ drop (length first) out → k ≡ length second → t ≡ take (length second) second ++ drop (length second) (mid_of j (length u - j) u)
    → (j + k ≡ length first + 16) × (take (j + k) (put_mid j (length u - j) u t) ≡ first ++ take 16 second)
join_both first second out u t j k s room l p q n e =
    let le : j ≤ length u = omega arith in
    let b : second ≡ take 16 second = sym (take_all 16 second (omega arith)) in
    let f : take j u ≡ first = ap (λ (i : ℕ). take i u) p ∙ ap (λ (v : List ℕ). take (length first) v) (q ∙ ap (λ (v : List ℕ). v ++ drop (length first) out) (take-length first)) ∙ take-append_seam first _ in
    (omega arith, ap (λ i. take (j + i) (put_mid j (length u - j) u t)) n ∙ in_use j u second t _ le e ∙ (λ i. f i ++ b i))
