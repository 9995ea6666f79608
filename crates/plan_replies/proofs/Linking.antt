-- One reply more is linked, the last of those that are not: what the code needs for it, and what it leaves.
use mathlib.Core.Path.{◌≡◌, sym, subst, ◌∙◌}
use mathlib.Core.List.{List}
use Prim.Native.Nat.{ℕ, suc, ◌+◌, ◌*◌, ◌-◌, ◌≤◌, ◌<◌}
use native.Mathlib.Omega.{arith}
use lib.ListN.{length, get_or, take, drop, set}
use Rattle.bits.specs.Bits.{value_of}
use Rattle.bits.specs.Bytes.{stream}
use Rattle.bits.proofs.Streams.{length_stream}
use Rattle.plan_file.specs.Plan.{Reply}
use Rattle.plan_replies.specs.Table.{reply_at, Table}
use Rattle.plan_replies.specs.Finds.{CanLinkOne, LinksOne, CanLink}
use Rattle.plan_replies.proofs.Tables.{ProcessThere, process_there, link_table}

-- What is known of the words that are read and written.
pub record Words (s t : List ℕ) (k : ℕ) : Type 0 where
  pub few : k < 1023
  pub words : length t ≡ 2112
  pub room : get_or t (64 + 2 * k) 0 + 6 ≤ length s * 8
  pub inside : get_or t (64 + 2 * k) 0 + 6 ≤ 131072
  pub small : (v : ℕ) → v ≡ value_of (take 6 (drop (get_or t (64 + 2 * k) 0) (stream s))) → v < 64

module _ (s : List ℕ) (k : ℕ) (t : List ℕ) where
  module _ (rs : List Reply) (l : k < length rs) (i : Table (stream s) rs (drop (suc k) rs) (suc k) t) where
    there : ProcessThere (stream s) (get_or t (64 + 2 * k) 0) (reply_at rs k)
    there = process_there (stream s) _ _ (i.places k l)

    process_is : (v : ℕ) → v ≡ value_of (take 6 (drop (get_or t (64 + 2 * k) 0) (stream s))) → (reply_at rs k).process ≡ v
    process_is v e = sym (e ∙ there.value)

  pub words_there : CanLinkOne s k t → Words s t k
  words_there c =
      let p = there c.replies c.there c.behind in
      let r : get_or t (64 + 2 * k) 0 + 6 ≤ length s * 8 = rw length_stream at p.room in
      record {
        few = omega (arith, c.there, c.behind.few);
        words = c.behind.words;
        room = r;
        inside = omega (arith, c.short);
        small = λ v e. omega (arith, process_is c.replies c.there c.behind v e, p.small);
      }

  pub linked : (v : ℕ) → v ≡ value_of (take 6 (drop (get_or t (64 + 2 * k) 0) (stream s))) → v < 64 → LinksOne s k t (set (set t (65 + 2 * k) (get_or t v 0)) v (k + 1))
  linked v e m rs l i =
      let z : suc k ≡ k + 1 = omega arith in
      subst (λ (n : ℕ). Table (stream s) rs (drop k rs) k (set (set t (65 + 2 * k) (get_or t v 0)) v n)) z (link_table (stream s) rs k t l v (process_is rs l i v e) m i)

-- From the last to the first.
pub can_link_one : (s : List ℕ) (count k : ℕ) (t₀ t : List ℕ) → CanLink s count t₀ → ((rs : List Reply) → count ≡ length rs → Table (stream s) rs (drop count rs) count t₀ → Table (stream s) rs (drop k rs) k t) → 0 < k → k ≤ count → CanLinkOne s (k - 1) t
can_link_one s count k t₀ t c g p l = record {
  replies = c.replies;
  there = omega (arith, c.counted);
  short = c.short;
  behind = let z : k ≡ suc (k - 1) = omega arith in subst (λ (n : ℕ). Table (stream s) c.replies (drop n c.replies) n t) z (g c.replies c.counted c.noted);
}

pub linked_one : (s : List ℕ) (rs : List Reply) (k : ℕ) (t t' : List ℕ) → 0 < k → k ≤ length rs → LinksOne s (k - 1) t t' → Table (stream s) rs (drop k rs) k t → Table (stream s) rs (drop (k - 1) rs) (k - 1) t'
linked_one s rs k t t' p l h i = h rs (omega arith) (let z : k ≡ suc (k - 1) = omega arith in subst (λ (n : ℕ). Table (stream s) rs (drop n rs) n t) z i)
