-- What the table says when a reply is linked, and when one is taken.
use mathlib.Core.Path.{◌≡◌, refl, sym, ap, subst, ◌∙◌}
use mathlib.Core.Bool.{Bool}
use mathlib.Core.List.{List, [], ◌∷◌}
use Prim.Native.Nat.{ℕ, suc, ◌+◌, ◌*◌, ◌≤◌, ◌<◌}
use native.Mathlib.Omega.{arith}
use lib.Dec.{eqb}
use lib.ListN.{length, get_or, take, drop, set, length-set}
use lib.Seq.{get_or-set_same, get_or-set_other, drop-cons}
use borrow.Author.Tests.{eqb-true, eqb-false, eq-eqb, ne_eqb}
use Rattle.bits.specs.Bits.{value_of}
use Rattle.bits.proofs.Fields.{value_take}
use Rattle.rules.specs.Base.{if◌then◌otherwise◌}
use Rattle.rules.specs.State.{Message}
use Rattle.rules.proofs.Tests.{by_bool}
use Rattle.plan_file.specs.Plan.{Reply}
use Rattle.plan_file.proofs.Messages.{reply_parts}
use Rattle.plan_rules.specs.Host.{reply_of, without}
use Rattle.plan_rules.specs.Laws.{replies_by}
use Rattle.plan_rules.proofs.Kth.{first_is, without_own, without_other}
use Rattle.plan_replies.specs.Table.{reply_at, StandsAt, leads_to, Link, Table}

-- The replies of a process from the reply k on.
own_reply : (q : ℕ) (r : Reply) (rs : List Reply) → r.process ≡ q → replies_by q (r ∷ rs) ≡ r.messages ∷ replies_by q rs
unfolding replies_by if◌then◌otherwise◌
own_reply q r rs e = rw (eq-eqb q r.process (sym e))

other_reply : (q : ℕ) (r : Reply) (rs : List Reply) → (q ≡ r.process → ⊥) → replies_by q (r ∷ rs) ≡ replies_by q rs
unfolding replies_by if◌then◌otherwise◌
other_reply q r rs e = rw (ne_eqb q r.process e)

module _ (rs : List Reply) (k : ℕ) (l : k < length rs) where
  here : drop k rs ≡ reply_at rs k ∷ drop (suc k) rs
  here = drop-cons rs k _ l

  own_from : (q : ℕ) → (reply_at rs k).process ≡ q → replies_by q (drop k rs) ≡ (reply_at rs k).messages ∷ replies_by q (drop (suc k) rs)
  own_from q e = ap (replies_by q) here ∙ own_reply q (reply_at rs k) (drop (suc k) rs) e

  other_from : (q : ℕ) → (q ≡ (reply_at rs k).process → ⊥) → replies_by q (drop k rs) ≡ replies_by q (drop (suc k) rs)
  other_from q e = ap (replies_by q) here ∙ other_reply q (reply_at rs k) (drop (suc k) rs) e

-- A link to the same replies, said otherwise.
same_link : (rs : List Reply) (q i j : ℕ) (ms ns : List (List Message)) → i ≡ j → ms ≡ ns → Link rs q i ms → Link rs q j ns
same_link rs q i j ms ns e f l = record { inside = rw (sym e) l.inside; own = λ k g. l.own k (e ∙ g); leads = ap (leads_to rs q) (sym e) ∙ l.leads ∙ f }

first_link : (rs : List Reply) (k q : ℕ) → k < length rs → (reply_at rs k).process ≡ q → Link rs q (suc k) (replies_by q (drop k rs))
unfolding leads_to
first_link rs k q l e = record { inside = omega arith; own = λ j g. let z : j ≡ k = omega arith in ap (λ (i : ℕ). (reply_at rs i).process) z ∙ e; leads = refl }

-- A reply's process is its first six bits.
pub record ProcessThere (b : List Bool) (at : ℕ) (r : Reply) : Type 0 where
  pub room : at + 6 ≤ length b
  pub value : value_of (take 6 (drop at b)) ≡ r.process
  pub small : r.process < 64

pub process_there : (b : List Bool) (at : ℕ) (r : Reply) → StandsAt b at r → ProcessThere b at r
process_there b at r g =
    let p = reply_parts b at r g.behind g.stands in
    record { room = omega (arith, p.room); value = sym p.process; small = rw p.process (value_take 6 (drop at b)) }

-- The reply k is linked before the others of its process: its word is told where those begin, and the process's link is now its own.
module _ (b : List Bool) (rs : List Reply) (k : ℕ) (t : List ℕ) (l : k < length rs) (q : ℕ) (is : (reply_at rs k).process ≡ q) (small : q < 64) (i : Table b rs (drop (suc k) rs) (suc k) t) where
  abbrev linked : List ℕ
  linked = set (set t (65 + 2 * k) (get_or t q 0)) q (suc k)

  unmoved : (j : ℕ) → (j ≡ q → ⊥) → (j ≡ 65 + 2 * k → ⊥) → get_or linked j 0 ≡ get_or t j 0
  unmoved j f g = get_or-set_other (set t (65 + 2 * k) (get_or t q 0)) q j (suc k) 0 f ∙ get_or-set_other t (65 + 2 * k) j (get_or t q 0) 0 g

  at_process : get_or linked q 0 ≡ suc k
  at_process = get_or-set_same (set t (65 + 2 * k) (get_or t q 0)) q (suc k) 0 (rw length-set (omega (arith, i.words)))

  at_reply : get_or linked (65 + 2 * k) 0 ≡ get_or t q 0
  at_reply = get_or-set_other (set t (65 + 2 * k) (get_or t q 0)) q (65 + 2 * k) (suc k) 0 (λ e. omega arith) ∙ get_or-set_same t (65 + 2 * k) (get_or t q 0) 0 (omega (arith, i.words, i.few))

  pub link_table : Table b rs (drop k rs) k linked
  link_table = record {
    words = rw (length-set, length-set) i.words;
    few = i.few;
    places = λ j m. subst (λ (x : ℕ). StandsAt b x (reply_at rs j)) (sym (unmoved (64 + 2 * j) (λ e. omega arith) (λ e. omega arith))) (i.places j m);
    links = λ j f m. by_bool (eqb j k)
        (λ e. let z = eqb-true j k e in subst (λ (x : ℕ). Link rs (reply_at rs x).process (get_or linked (65 + 2 * x) 0) (replies_by (reply_at rs x).process (drop (suc x) rs))) (sym z) own-link)
        (λ e. let n = eqb-false j k e in same_link rs _ _ _ _ _ (sym (unmoved (65 + 2 * j) (λ e. omega arith) (λ e. n (let z : j ≡ k = omega arith in z)))) refl (i.links j (let z : suc k ≤ j = omega arith in z) m));
    cursors = λ p m. by_bool (eqb p q)
        (λ e. let z = eqb-true p q e in subst (λ (x : ℕ). Link rs x (get_or linked x 0) (replies_by x (drop k rs))) (sym z) (same_link rs q (suc k) (get_or linked q 0) _ _ (sym at_process) refl (first_link rs k q l is)))
        (λ e. let n = eqb-false p q e in same_link rs p _ _ _ _ (sym (unmoved p n (λ e. omega arith))) (sym (other_from rs k l p (λ e. n (e ∙ is)))) (i.cursors p m));
  }
    where
      own-link : Link rs (reply_at rs k).process (get_or linked (65 + 2 * k) 0) (replies_by (reply_at rs k).process (drop (suc k) rs))
      own-link = subst (λ (x : ℕ). Link rs x (get_or linked (65 + 2 * k) 0) (replies_by x (drop (suc k) rs))) (sym is) (same_link rs q (get_or t q 0) (get_or linked (65 + 2 * k) 0) _ _ (sym at_reply) refl (i.cursors q small))

-- A process without a reply: none is taken.
module _ (b : List Bool) (rs left : List Reply) (t : List ℕ) (i : Table b rs left 0 t) (q : ℕ) (small : q < 64) where
  module _ (z : get_or t q 0 ≡ 0) where
    none_left : replies_by q left ≡ []
    unfolding leads_to
    none_left = sym (i.cursors q small).leads ∙ ap (leads_to rs q) z

    pub nothing_due : reply_of q left ≡ []
    nothing_due = first_is q left ∙ ap (λ (l : List (List Message)). get_or l 0 []) none_left

    pub nothing_taken : Table b rs (without q left) 0 t
    nothing_taken = record {
      words = i.words;
      few = i.few;
      places = i.places;
      links = i.links;
      cursors = λ p m. by_bool (eqb q p)
          (λ e. let y = eqb-true q p e in same_link rs p _ _ _ _ refl (subst (λ (x : ℕ). replies_by x left ≡ replies_by x (without q left)) y (none_left ∙ sym (without_own q left ∙ ap (drop 1) none_left))) (i.cursors p m))
          (λ e. same_link rs p _ _ _ _ refl (sym (without_other p q left e)) (i.cursors p m));
    }

  -- A process with one: it is the first of those left, and the link goes on to the next.
  module _ (k : ℕ) (is : get_or t q 0 ≡ suc k) where
    pub reply_there : k < length rs
    reply_there = omega (arith, (i.cursors q small).inside)

    own : (reply_at rs k).process ≡ q
    own = (i.cursors q small).own k is

    these_left : replies_by q left ≡ (reply_at rs k).messages ∷ replies_by q (drop (suc k) rs)
    unfolding leads_to
    these_left = sym (i.cursors q small).leads ∙ ap (leads_to rs q) is ∙ own_from rs k reply_there q own

    pub due_reply : reply_of q left ≡ (reply_at rs k).messages
    due_reply = first_is q left ∙ ap (λ (l : List (List Message)). get_or l 0 []) these_left

    pub reply_taken : Table b rs (without q left) 0 (set t q (get_or t (65 + 2 * k) 0))
    reply_taken = record {
      words = rw length-set i.words;
      few = i.few;
      places = λ j m. subst (λ (x : ℕ). StandsAt b x (reply_at rs j)) (sym (get_or-set_other t q (64 + 2 * j) _ 0 (λ e. omega arith))) (i.places j m);
      links = λ j f m. same_link rs _ _ _ _ _ (sym (get_or-set_other t q (65 + 2 * j) _ 0 (λ e. omega arith))) refl (i.links j f m);
      cursors = λ p m. by_bool (eqb q p)
          (λ e. let y = eqb-true q p e in subst (λ (x : ℕ). Link rs x (get_or (set t q (get_or t (65 + 2 * k) 0)) x 0) (replies_by x (without q left))) y next-link)
          (λ e. let n = eqb-false q p e in same_link rs p _ _ _ _ (sym (get_or-set_other t q p _ 0 (λ g. n (sym g)))) (sym (without_other p q left e)) (i.cursors p m));
    }
      where
        next-link : Link rs q (get_or (set t q (get_or t (65 + 2 * k) 0)) q 0) (replies_by q (without q left))
        next-link =
            let l : Link rs q (get_or t (65 + 2 * k) 0) (replies_by q (drop (suc k) rs)) = subst (λ (x : ℕ). Link rs x (get_or t (65 + 2 * k) 0) (replies_by x (drop (suc k) rs))) own (i.links k (omega arith) reply_there) in
            same_link rs q _ _ _ _ (sym (get_or-set_same t q _ 0 (omega (arith, i.words)))) (sym (without_own q left ∙ ap (drop 1) these_left)) l
