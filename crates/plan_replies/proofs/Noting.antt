-- The places of the replies are noted one after the other.
use mathlib.Core.Path.{◌≡◌, refl, sym, ap, subst, ◌∙◌}
use mathlib.Core.Bool.{Bool}
use mathlib.Core.List.{List, ◌∷◌}
use Prim.Native.Nat.{ℕ, zero, suc, ◌+◌, ◌*◌, ◌≤◌, ◌<◌}
use native.Mathlib.Omega.{arith}
use lib.Dec.{eqb}
use lib.ListN.{length, get_or, drop, set, length-set, drop_of_length-le}
use lib.Seq.{get_or-set_same, get_or-set_other, drop-cons}
use borrow.Author.Tests.{eqb-true, eqb-false}
use Rattle.words.specs.Words.{zeroes}
use Rattle.rules.proofs.Tests.{by_bool}
use Rattle.plan_file.specs.Format.{Got.short, Got.got}
use Rattle.plan_file.specs.Plan.{Reply}
use Rattle.plan_file.specs.Grammar.{reply}
use Rattle.plan_file.specs.Standing.{Standing}
use Rattle.plan_file.specs.Walked.{rest, Walked}
use Rattle.std.proofs.Common.{Option, Some, None}
use Rattle.plan_file.proofs.Stands.{after_first, first_stands, others_stand}
use Rattle.plan_file.proofs.Steps.{walk_in}
use Rattle.plan_rules.specs.Laws.{replies_by}
use Rattle.plan_replies.specs.Table.{reply_at, StandsAt, leads_to, Link, Table}

-- k places are noted, and the other replies stand at the bit p.
pub record Noting (b : List Bool) (rs : List Reply) (k p : ℕ) (t : List ℕ) : Type 0 where
  pub words : length t ≡ 2112
  pub few : length rs < 1024
  pub inside : k ≤ length rs
  pub ahead : Standing reply b p (drop k rs)
  pub placed : (j : ℕ) → j < k → StandsAt b (get_or t (64 + 2 * j) 0) (reply_at rs j)
  pub blank : (q : ℕ) → q < 64 → get_or t q 0 ≡ 0

zero_word : (n i : ℕ) → get_or (zeroes n) i 0 ≡ 0
zero_word zero i = refl
zero_word (suc n) zero = refl
zero_word (suc n) (suc i) = zero_word n i

pub noting_start : (b : List Bool) (rs : List Reply) (p : ℕ) (t : List ℕ) → t ≡ zeroes 2112 → length rs < 1024 → Standing reply b p rs → Noting b rs 0 p t
noting_start b rs p t z f g = record { words = ap length z; few = f; inside = omega arith; ahead = g; placed = λ j l. absurd (omega arith); blank = λ q l. ap (λ (w : List ℕ). get_or w q 0) z ∙ zero_word 2112 q }

module _ (b : List Bool) (rs : List Reply) (k p : ℕ) (t : List ℕ) (i : Noting b rs k p t) (l : k < length rs) (r : Option ℕ) (w : Walked b (rest (reply.get (drop p b))) r) where
  here : Standing reply b p (reply_at rs k ∷ drop (suc k) rs)
  here = subst (Standing reply b p) (drop-cons rs k _ l) i.ahead

  stands : rest (reply.get (drop p b)) ≡ got tt (after_first here)
  unfolding rest
  stands = ap rest (first_stands here)

  pub noting_short : r ≡ None → ⊥
  noting_short e = let s : short ≡ got tt (after_first here) = rw e at w.ends ∙ stands in let z : ◌≡◌ {A = ℕ} 0 1 = cc in absurd (omega arith)

  module _ (q : ℕ) (e : r ≡ Some q) where
    behind_it : drop q b ≡ after_first here
    behind_it = let s : got tt (drop q b) ≡ got tt (after_first here) = rw e at w.ends ∙ stands in cc

    pub noting_more : Noting b rs (k + 1) q (set t (64 + 2 * k) p)
    noting_more = record {
      words = rw length-set i.words;
      few = i.few;
      inside = omega arith;
      ahead = let z : suc k ≡ k + 1 = omega arith in subst (λ (n : ℕ). Standing reply b q (drop n rs)) z (others_stand here q behind_it (walk_in w q e));
      placed = λ j m. by_bool (eqb j k)
          (λ y. subst (λ (n : ℕ). StandsAt b (get_or (set t (64 + 2 * k) p) (64 + 2 * n) 0) (reply_at rs n)) (sym (eqb-true j k y)) (record { behind = after_first here; stands = ap (λ (n : ℕ). reply.get (drop n b)) (get_or-set_same t (64 + 2 * k) p 0 (omega (arith, i.words, i.few))) ∙ first_stands here }))
          (λ y. let n = eqb-false j k y in subst (λ (n : ℕ). StandsAt b n (reply_at rs j)) (sym (get_or-set_other t (64 + 2 * k) (64 + 2 * j) p 0 (λ z. n (let x : j ≡ k = omega arith in x)))) (i.placed j (let x : j < k = omega arith in x)));
      blank = λ x m. get_or-set_other t (64 + 2 * k) x p 0 (λ z. omega arith) ∙ i.blank x m;
    }

-- All of them are noted.
noted : (b : List Bool) (rs : List Reply) (k p : ℕ) (t : List ℕ) → k ≡ length rs → Noting b rs k p t → Table b rs (drop k rs) k t
unfolding leads_to replies_by
noted b rs k p t e i = record {
  words = i.words;
  few = i.few;
  places = λ j m. i.placed j (omega arith);
  links = λ j f m. absurd (omega arith);
  cursors = λ q m. subst (λ (n : ℕ). Link rs q n (replies_by q (drop k rs))) (sym (i.blank q m)) (record { inside = omega arith; own = λ j z. absurd (omega arith); leads = sym (ap (replies_by q) (drop_of_length-le rs (let x : length rs ≤ k = omega arith in x))) });
}

pub noted_as : (b : List Bool) (rs : List Reply) (n k p : ℕ) (t : List ℕ) → n ≡ length rs → k ≡ length rs → Noting b rs k p t → Table b rs (drop n rs) n t
noted_as b rs n k p t f e i = subst (λ (j : ℕ). Table b rs (drop j rs) j t) (e ∙ sym f) (noted b rs k p t e i)
