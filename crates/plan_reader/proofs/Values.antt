-- Bits as ids, ticks and payload words.
use Prim.Native.Nat.{ℕ, zero, suc, ◌+◌, ◌-◌, ◌*◌, ◌/◌, ◌%◌, ◌^◌, ◌<◌, ◌≤◌, min}
use mathlib.Core.Path.{◌≡◌, refl, sym, ap, ◌∙◌}
use mathlib.Core.Logic.{⊎_elim}
use mathlib.Core.Bool.{Bool}
use mathlib.Core.List.{List, [], ◌∷◌, ◌++◌}
use native.Mathlib.Omega.{arith}
use native.Mathlib.Nat.{pow-suc, add-zero}
use lib.Pow.{pow-add, shl_exact, shr-shr, shl-shr}
use lib.ListN.{length, take, drop, get_or, length-drop}
use lib.Seq.{take-add, drop-drop, length-take-le}
use borrow.Author.Tests.{lt-ltb, le-ltb}
use Rattle.types.specs.Value.{halves, id_of_word}
use Rattle.types.proofs.Ids.{id_of_small}
use Rattle.types.proofs.Halves.{lt_or_ge}
use Rattle.words.specs.Words.{tab}
use Rattle.records.specs.Records.{byte_of, payload_byte, payload_of}
use Rattle.rules.specs.Base.{if◌then◌otherwise◌}
use Rattle.bits.specs.Bits.{value_of}
use Rattle.bits.proofs.Fields.{value_take, value_append, slice}
use Rattle.plan_file.specs.Format.{field}
use Rattle.plan_file.proofs.Reading.{gets_length}
use Rattle.plan_file.proofs.Messages.{field_list}
use Rattle.plan_reader.specs.Read.{PayloadRead}

pub id_of_field : (x : List Bool) → id_of_word (value_of (take 6 x)) ≡ value_of (take 6 x)
id_of_field x = id_of_small _ (omega (arith, value_take 6 x))

-- Two halves are one field of 128 bits.
pub halves_of : (b : List Bool) (at : ℕ) → at + 128 ≤ length b → halves (value_of (take 64 (drop at b))) (value_of (take 64 (drop (at + 64) b))) ≡ value_of (take 128 (drop at b))
unfolding halves
halves_of b at h =
    let l : 64 ≤ length (drop (at + 64) b) = rw length-drop (omega arith) in
    let n : length (take 64 (drop (at + 64) b)) ≡ 64 = length-take-le 64 (drop (at + 64) b) l in
    let e : take 128 (drop at b) ≡ take 64 (drop at b) ++ take 64 (drop (at + 64) b) = take-add 64 64 (drop at b) ∙ rw (drop-drop 64 at b) in
    let v : value_of (take 64 (drop at b) ++ take 64 (drop (at + 64) b)) ≡ value_of (take 64 (drop at b)) * 2 ^ 64 + value_of (take 64 (drop (at + 64) b))
    = rw n at (value_append (take 64 (drop at b)) (take 64 (drop (at + 64) b))) in
    sym (ap value_of e ∙ v)

-- A word of up to eight bytes.
pub word_is : (n : ℕ) (x : List Bool) (v : ℕ) → n ≤ 8 → v ≡ value_of (take (n * 8) x) → (v * 2 ^ (64 - n * 8)) % 2 ^ 64 ≡ value_of (take (n * 8) x) * 2 ^ (64 - n * 8)
word_is n x v h e =
    let l : v < 2 ^ (n * 8) = rw e (value_take (n * 8) x) in
    let f : n * 8 + (64 - n * 8) ≤ 64 = omega arith in
    shl_exact (n * 8) (64 - n * 8) 64 l f ∙ ap (λ (k : ℕ). k * 2 ^ (64 - n * 8)) e

pub no_bytes : (n : ℕ) (x : List Bool) → n ≡ 0 → 0 ≡ value_of (take (n * 8) x) * 2 ^ (64 - n * 8)
unfolding value_of
no_bytes n x z = rw z

pow_256 : (n : ℕ) → 256 ^ n ≡ 2 ^ (n * 8)
pow_256 zero = refl
pow_256 (suc n) =
    let m : suc n * 8 ≡ n * 8 + 8 = omega arith in
    pow-suc 256 n ∙ ap (λ (k : ℕ). k * 256) (pow_256 n) ∙ sym (pow-add 2 (n * 8) 8) ∙ ap (λ (k : ℕ). 2 ^ k) (sym m)

-- Byte k of a word of n bytes.
byte_is : (x : List Bool) (n k : ℕ) → k < n → n ≤ 8 → n * 8 ≤ length x → byte_of (value_of (take (n * 8) x) * 2 ^ (64 - n * 8)) k ≡ value_of (take 8 (drop (k * 8) x))
byte_is x n k h l f =
    let v : ℕ = value_of (take (n * 8) x) in
    let u : ℕ = 64 - n * 8 in
    let r : ℕ = n * 8 - 8 - k * 8 in
    let s : (7 - k) * 8 ≡ u + r = omega arith in
    let c : k * 8 + (8 + r) ≡ n * 8 = omega arith in
    let g : k * 8 + (8 + r) ≤ length x = omega arith in
    let p : 256 ^ (7 - k) ≡ 2 ^ (u + r) = pow_256 (7 - k) ∙ ap (λ (j : ℕ). 2 ^ j) s in
    let d : v * 2 ^ u / 2 ^ (u + r) ≡ v / 2 ^ r = sym (shr-shr (v * 2 ^ u) u r) ∙ ap (λ (j : ℕ). j / 2 ^ r) (shl-shr v u) in
    ap (λ (j : ℕ). v * 2 ^ u / j % 256) p ∙ ap (λ (j : ℕ). j % 256) d ∙ rw c at (slice x (k * 8) 8 r g)

tab_of : (f : ℕ → ℕ) (i : ℕ) (xs : List ℕ) → ((k : ℕ) → k < length xs → get_or xs k 0 ≡ f (i + k)) → xs ≡ tab f i (length xs)
unfolding tab
tab_of f i [] h = refl
tab_of f i (x ∷ xs) h =
    let e : x ≡ f i = h 0 (omega arith) ∙ ap f (add-zero i) in
    let more : (k : ℕ) → k < length xs → get_or xs k 0 ≡ f (suc i + k) = λ k l. let m : i + suc k ≡ suc i + k = omega arith in h (suc k) (omega arith) ∙ ap f m in
    λ j. e j ∷ tab_of f (suc i) xs more j

-- A payload in two words.
module _ (b : List Bool) (at n first second hi lo : ℕ) (room : at + n * 8 ≤ length b) (f : first ≡ min n 8) (s : second ≡ min (n - first) 8)
    (h : hi ≡ value_of (take (first * 8) (drop at b)) * 2 ^ (64 - first * 8)) (l : lo ≡ value_of (take (second * 8) (drop (at + first * 8) b)) * 2 ^ (64 - second * 8)) where
  upper : (k : ℕ) → k < n → k < 8 → payload_byte hi lo k ≡ value_of (take 8 (drop (k * 8) (drop at b)))
  unfolding payload_byte if◌then◌otherwise◌
  upper k a c =
      let m : first * 8 ≤ length (drop at b) = rw length-drop (omega arith) in
      rw (lt-ltb k 8 c, h) (byte_is (drop at b) first k (omega arith) (omega arith) m)

  lower : (k : ℕ) → k < n → 8 ≤ k → k < 16 → payload_byte hi lo k ≡ value_of (take 8 (drop (k * 8) (drop at b)))
  unfolding payload_byte if◌then◌otherwise◌
  lower k a c d =
      let m : second * 8 ≤ length (drop (at + first * 8) b) = rw length-drop (omega arith) in
      let e : at + first * 8 + (k - 8) * 8 ≡ at + k * 8 = omega arith in
      rw (le-ltb k 8 c, lt-ltb k 16 d, l) (byte_is (drop (at + first * 8) b) second (k - 8) (omega arith) (omega arith) m)
      ∙ ap (λ (x : List Bool). value_of (take 8 x)) (drop-drop ((k - 8) * 8) (at + first * 8) b ∙ ap (λ (j : ℕ). drop j b) e ∙ sym (drop-drop (k * 8) at b))

  each : (k : ℕ) → k < n → n ≤ 16 → payload_byte hi lo k ≡ value_of (take 8 (drop (k * 8) (drop at b)))
  each k a c = ⊎_elim (λ (d : k < 8). upper k a d) (λ (d : 8 ≤ k). lower k a d (omega arith)) (lt_or_ge k 8)

  pub payload_read : PayloadRead b at n (record { hi = hi; lo = lo })
  unfolding payload_of
  payload_read = record {
    bytes = λ xs behind e c.
        let g = field_list 8 n (drop at b) xs behind e in
        let m : length xs ≡ n = gets_length (field 8) n (drop at b) xs behind e in
        let t : xs ≡ tab (payload_byte hi lo) 0 (length xs)
        = tab_of (payload_byte hi lo) 0 xs (λ k d. let z : 0 + k ≡ k = omega arith in let q : k < n = omega arith in g.each k q ∙ sym (each k q c) ∙ ap (payload_byte hi lo) (sym z)) in
        t ∙ ap (tab (payload_byte hi lo) 0) m;
  }
