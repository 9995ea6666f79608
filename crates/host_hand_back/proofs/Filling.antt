-- Words copied one behind the other, and the parts that they make.
use mathlib.Core.Path.{◌≡◌, sym, ap, ◌∙◌}
use mathlib.Core.Logic.{⊎_elim}
use mathlib.Core.List.{List, ◌++◌, append_assoc}
use Prim.Native.Nat.{ℕ, ◌+◌, ◌*◌, ◌≤◌, ◌<◌}
use native.Mathlib.Omega.{arith}
use lib.ListN.{length, get_or, take, drop, length-append}
use lib.Seq.{length-take-le, get_or-take, take_all, take_at, drop-append_seam}
use lib.Dec.{ltb}
use borrow.Author.Tests.{ltb-true}
use borrow.Rule.Slice.PartMut.{put_mid}
use Rattle.std.proofs.lemmas.Slice.{take-put_mid}
use Rattle.types.proofs.Halves.{lt_or_ge}
use Rattle.words.proofs.Ticks.{tick_cong}
use Rattle.rules.specs.Base.{if◌then◌otherwise◌}
use Rattle.rules.specs.State.{Edge}
use Rattle.rules.proofs.Tests.{by_bool}
use Rattle.reply_words.proofs.Table.{past_end}
use Rattle.hand_back_edges.specs.Looks.{Looks}
use Rattle.hand_back_edges.specs.Lookaheads.{lookahead_in, FoundLookaheads}
use Rattle.host_hand_back.specs.Passes.{Sizes, tables_of, lookaheads_in, places_in, processes_in, batch_in}

module _ (w T Z B : List ℕ) (n : length w ≡ 9024) (t : length T ≡ 64) (z : length Z ≡ 256) (b : length B ≡ 512) where
  pub sizes : Sizes (take 8192 w) T Z B
  sizes = record { look_words = length-take-le 8192 w (omega arith); place_words = t; process_words = z; batch_words = b }

-- Each of three parts behind the others.
pub filled : (w T Z B T' Z' B' : List ℕ) → length w ≡ 9024 → length T ≡ 64 → length Z ≡ 256 → length B ≡ 512 → T' ≡ T → Z' ≡ Z → B' ≡ B
    → let u = put_mid 8192 64 w T' in let v = put_mid 8256 256 u Z' in let y = put_mid 8512 512 v B' in
    length u ≡ length w → length v ≡ length u → length y ≡ length v → y ≡ tables_of (take 8192 w) T Z B
filled w T Z B T' Z' B' n t z b e f g i j k =
    rw (← e, ← f, ← g)
    (sym (take_all 9024 _ (omega (arith, k, j, i, n)))
    ∙ take-put_mid 8512 512 _ B' 9024 (omega (arith, ap length g, b)) (omega (arith, j, i, n))
    ∙ ap (λ (x : List ℕ). x ++ B') (take-put_mid 8256 256 _ Z' 8512 (omega (arith, ap length f, z)) (omega (arith, i, n))
    ∙ ap (λ (x : List ℕ). x ++ Z') (take-put_mid 8192 64 w T' 8256 (omega (arith, ap length e, t)) (omega (arith, n)))))

-- A part in the middle.
middle : (A X R : List ℕ) (k n : ℕ) → length A ≡ k → length X ≡ n → take n (drop k ((A ++ X) ++ R)) ≡ X
middle A X R k n a x = rw (← a) (ap (take n) (ap (drop (length A)) (append_assoc A X R) ∙ drop-append_seam A (X ++ R)) ∙ take_at X R n x)

last : (A X : List ℕ) (k n : ℕ) → length A ≡ k → length X ≡ n → take n (drop k (A ++ X)) ≡ X
last A X k n a x = rw (← a) (ap (take n) (drop-append_seam A X) ∙ take_all n X (omega arith))

module _ (R T Z B : List ℕ) (s : Sizes R T Z B) where
  abbrev two : List ℕ
  two = R ++ T

  abbrev three : List ℕ
  three = (R ++ T) ++ Z

  long_two : length two ≡ 8256
  long_two = omega (arith, length-append R T, s.look_words, s.place_words)

  long_three : length three ≡ 8512
  long_three = omega (arith, length-append two Z, long_two, s.process_words)

  pub batch_there : batch_in (tables_of R T Z B) ≡ B
  batch_there = last three B 8512 512 long_three s.batch_words

  pub processes_there : processes_in (tables_of R T Z B) ≡ Z
  processes_there = middle two Z B 8256 256 long_two s.process_words

  pub places_there : places_in (tables_of R T Z B) ≡ T
  places_there = ap (λ (l : List ℕ). take 64 (drop 8192 l)) (append_assoc two Z B) ∙ middle R T (Z ++ B) 8192 64 s.look_words s.place_words

  pub lookaheads_there : lookaheads_in (tables_of R T Z B) ≡ R
  lookaheads_there = ap (take 8192) (append_assoc two Z B ∙ append_assoc R T (Z ++ B)) ∙ take_at R (T ++ (Z ++ B)) 8192 s.look_words

-- The lookaheads in the first words of a table.
module _ (w : List ℕ) (a b : ℕ) (l : a < 64) where
  pub front : (k : ℕ) → k < 8192 → get_or (take 8192 w) k 0 ≡ get_or w k 0
  front k h = get_or-take 8192 w k 0 h

  look_front : lookahead_in (take 8192 w) a b ≡ lookahead_in w a b
  unfolding lookahead_in if◌then◌otherwise◌
  look_front =
      by_bool (ltb b 64)
      (λ t.
      let m = ltb-true b 64 t in
      rw t (tick_cong (take 8192 w) w (2 * (64 * a + b)) (2 * (64 * a + b)) (front (2 * (64 * a + b)) (omega arith)) (front (2 * (64 * a + b) + 1) (omega arith))))
      (λ t. rw t)

pub looks_front : (es : List Edge) (T w : List ℕ) → length T ≡ 64 → FoundLookaheads es w → Looks es T (lookahead_in (take 8192 w))
unfolding Looks FoundLookaheads
looks_front es T w n f a b p =
    ⊎_elim (λ (l : a < 64). look_front w a b l ∙ f T a b p) (λ (l : 64 ≤ a). absurd (p (past_end T a n l))) (lt_or_ge a 64)
