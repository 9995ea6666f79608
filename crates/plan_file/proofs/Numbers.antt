-- The number of a file, from the place where its contents end; and what a file that is let pass says.
use Prim.Native.Nat.{ℕ, ◌*◌, ◌-◌, ◌<◌, ◌≤◌}
use mathlib.Core.Path.{◌≡◌, refl, sym, ap, ◌∙◌}
use mathlib.Core.Bool.{Bool, true, false}
use mathlib.Core.Logic.{◌⊎◌, inl, inr, ⊎_elim}
use mathlib.Core.List.{List}
use native.Mathlib.Omega.{arith}
use lib.Dec.{ltb, eqb}
use lib.ListN.{length, take, drop, length-drop}
use lib.Seq.{take_all}
use borrow.Author.Tests.{ltb-true, ltb-false, eqb-true, lt-ltb, le-ltb, eq-eqb, ne_eqb}
use Rattle.bits.specs.Bits.{value_of}
use Rattle.bits.specs.Bytes.{stream}
use Rattle.bits.proofs.Streams.{length_stream}
use Rattle.rules.specs.Base.{if◌then◌otherwise◌}
use Rattle.plan_file.specs.Format.{Got, Got.short, Got.got}
use Rattle.plan_file.specs.Plan.{Plan}
use Rattle.plan_file.specs.Grammar.{plan}
use Rattle.plan_file.specs.File.{Answer, Answer.refused, Answer.contents, decode, ended, number_of}
use Rattle.plan_file.specs.Checks.{refusal_number, Checks}
use Rattle.plan_file.specs.Walked.{rest, WalkedPlan}
use Rattle.plan_file.specs.declared.Parts.{Parts}
use Rattle.plan_file.specs.declared.FileRefusal.{FileRefusal}
use Rattle.plan_file.specs.declared.FileRefusal.TheVariants.{Malformed, TooLong}
use Rattle.std.proofs.Common.{Ok, Err}

-- A file that is let pass: its contents were read, and what is left of it are fewer than eight zero bits.
pub record Decoded (s : List ℕ) (p : Plan) : Type 0 where
  pub behind : List Bool
  pub size : length s ≤ 16384
  pub reads : plan.get (stream s) ≡ got p behind
  pub few : length behind < 8
  pub zero : value_of behind ≡ 0

pub decoded : (s : List ℕ) (p : Plan) → decode s ≡ contents p → Decoded s p
unfolding decode ended if◌then◌otherwise◌
decoded s p = by_size (ltb 16384 (length s)) refl
  where
    by_tests : length s ≤ 16384 → (q : Plan) (r : List Bool) → plan.get (stream s) ≡ got q r → (t u : Bool) → ltb (length r) 8 ≡ t → eqb (value_of r) 0 ≡ u
        → (if t then (if u then contents q otherwise refused 37) otherwise refused 37) ≡ contents p → Decoded s p
    by_tests h q r g false u a b e = let z : ◌≡◌ {A = ℕ} 0 1 = cc in absurd (omega arith)
    by_tests h q r g true false a b e = let z : ◌≡◌ {A = ℕ} 0 1 = cc in absurd (omega arith)
    by_tests h q r g true true a b e = record { behind = r; size = h; reads = cc; few = ltb-true _ _ a; zero = eqb-true _ _ b }

    by_reading : length s ≤ 16384 → (x : Got Plan) → plan.get (stream s) ≡ x → ended x ≡ contents p → Decoded s p
    by_reading h short g e = let z : ◌≡◌ {A = ℕ} 0 1 = cc in absurd (omega arith)
    by_reading h (got q r) g e = by_tests h q r g (ltb (length r) 8) (eqb (value_of r) 0) refl refl e

    by_size : (t : Bool) → ltb 16384 (length s) ≡ t → (if t then refused 38 otherwise ended (plan.get (stream s))) ≡ contents p → Decoded s p
    by_size true h e = let z : ◌≡◌ {A = ℕ} 0 1 = cc in absurd (omega arith)
    by_size false h e = by_reading (ltb-false _ _ h) (plan.get (stream s)) refl e

-- The number by what is left.
unfoldable left_number : Got (Unit {0}) → ℕ
left_number short = 37
left_number (got a r) = if ltb (length r) 8 then (if eqb (value_of r) 0 then 0 otherwise 37) otherwise 37

number_left : (x : Got Plan) → number_of (ended x) ≡ left_number (rest x)
unfolding ended rest left_number if◌then◌otherwise◌
number_left short = refl
number_left (got p r) = by_tests (ltb (length r) 8) (eqb (value_of r) 0)
  where
    by_tests : (t u : Bool) → number_of (if t then (if u then contents p otherwise refused 37) otherwise refused 37) ≡ (if t then (if u then 0 otherwise 37) otherwise 37)
    by_tests true true = refl
    by_tests true false = refl
    by_tests false u = refl

-- A file by its number: let pass, or refused by 37 or 38.
pub record Contents (s : List ℕ) : Type 0 where
  pub plan : Plan
  pub is : decode s ≡ contents plan

unfoldable Refusal : Answer → Type 0
Refusal (contents p) = Unit {0}
Refusal (refused k) = (k ≡ 37) ⊎ (k ≡ 38)

refusal_ended : (x : Got Plan) → Refusal (ended x)
unfolding ended if◌then◌otherwise◌ Refusal
refusal_ended short = inl refl
refusal_ended (got p r) = by_tests (ltb (length r) 8) (eqb (value_of r) 0)
  where
    by_tests : (t u : Bool) → Refusal (if t then (if u then contents p otherwise refused 37) otherwise refused 37)
    by_tests true true = tt
    by_tests true false = inl refl
    by_tests false u = inl refl

refusal : (s : List ℕ) → Refusal (decode s)
unfolding decode if◌then◌otherwise◌ Refusal
refusal s = by_size (ltb 16384 (length s))
  where
    by_size : (t : Bool) → Refusal (if t then refused 38 otherwise ended (plan.get (stream s)))
    by_size true = inr refl
    by_size false = refusal_ended (plan.get (stream s))

pub refusal_number_holds : (s : List ℕ) (k : ℕ) → decode s ≡ refused k → (k ≡ 37) ⊎ (k ≡ 38)
unfolding Refusal
refusal_number_holds s k e = rw e at (refusal s)

pub contents_of : (s : List ℕ) → number_of (decode s) ≡ 0 → Contents s
unfolding Refusal
contents_of s = by_answer (decode s) refl (refusal s)
  where
    by_answer : (a : Answer) → decode s ≡ a → Refusal a → number_of a ≡ 0 → Contents s
    by_answer (contents p) e h z = record { plan = p; is = e }
    by_answer (refused k) e h z = ⊎_elim (λ (x : k ≡ 37). absurd (omega arith)) (λ (x : k ≡ 38). absurd (omega arith)) h

pub refused_of : (s : List ℕ) → (number_of (decode s) ≡ 0 → ⊥) → decode s ≡ refused (number_of (decode s))
refused_of s = by_answer (decode s) refl
  where
    by_answer : (a : Answer) → decode s ≡ a → (number_of a ≡ 0 → ⊥) → a ≡ refused (number_of a)
    by_answer (contents p) e h = absurd (h refl)
    by_answer (refused k) e h = refl

-- A number that refuses.
positive : (e : FileRefusal) → 0 < refusal_number e
positive Malformed = omega arith
positive TooLong = omega arith

refused_checks : (s : List ℕ) (e : FileRefusal) → number_of (decode s) ≡ refusal_number e → Checks s (Err e)
refused_checks s e d = record {
  number = sym d;
  refuses = λ j q. sym d ∙ ap number_of q;
  parts = λ p q. let z : refusal_number e ≡ 0 = sym d ∙ ap number_of q in absurd (omega (arith, positive e));
}

module _ (s : List ℕ) where
  pub too_long : 16384 < length s → Checks s (Err TooLong)
  unfolding decode if◌then◌otherwise◌
  too_long h = refused_checks s TooLong (rw (lt-ltb 16384 (length s) h))

  module _ (h : length s ≤ 16384) where
    number_is : number_of (decode s) ≡ left_number (rest (plan.get (stream s)))
    unfolding decode if◌then◌otherwise◌
    number_is = rw (le-ltb 16384 (length s) h) (number_left (plan.get (stream s)))

    pub too_short : rest (plan.get (stream s)) ≡ short → Checks s (Err Malformed)
    unfolding left_number
    too_short w = refused_checks s Malformed (number_is ∙ rw w)

    module _ {parts : Parts} {end : ℕ} (w : WalkedPlan (stream s) parts end) where
      abbrev left : List Bool
      left = drop end (stream s)

      left-length : length left ≡ length s * 8 - end
      left-length = rw (length-drop, length_stream)

      number_at : number_of (decode s) ≡ left_number (got tt left)
      number_at = number_is ∙ ap left_number w.ends

      pub left_over : 8 ≤ length s * 8 - end → Checks s (Err Malformed)
      unfolding left_number if◌then◌otherwise◌
      left_over l = let m : 8 ≤ length left = rw left-length l in refused_checks s Malformed (number_at ∙ rw (le-ltb (length left) 8 m))

      module _ (l : length s * 8 - end < 8) (v : ℕ) (q : v ≡ value_of (take (length s * 8 - end) left)) where
        value-is : v ≡ value_of left
        value-is = let m : length left ≤ length s * 8 - end = omega (arith, left-length) in q ∙ ap value_of (take_all (length s * 8 - end) left m)

        left_lt : length left < 8
        left_lt = rw left-length l

        pub set_padding : (v ≡ 0 → ⊥) → Checks s (Err Malformed)
        unfolding left_number if◌then◌otherwise◌
        set_padding z = refused_checks s Malformed (number_at ∙ rw (lt-ltb (length left) 8 left_lt, ne_eqb (value_of left) 0 (λ o. z (value-is ∙ o))))

        number-zero : v ≡ 0 → number_of (decode s) ≡ 0
        unfolding left_number if◌then◌otherwise◌
        number-zero z = number_at ∙ rw (lt-ltb (length left) 8 left_lt, eq-eqb (value_of left) 0 (sym value-is ∙ z))

        pub passes : v ≡ 0 → Checks s (Ok parts)
        passes z = record {
          number = sym (number-zero z);
          refuses = λ k e. let h = refusal_number_holds s k e in let q : k ≡ 0 = ap number_of (sym e) ∙ number-zero z in ⊎_elim (λ (x : k ≡ 37). absurd (omega arith)) (λ (x : k ≡ 38). absurd (omega arith)) h;
          parts = λ p e. w.lists p _ (decoded s p e).reads;
        }
