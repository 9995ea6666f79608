-- What each end of a rehearsal hands over.
use mathlib.Core.Path.{◌≡◌, refl, sym, ap, subst, ◌∙◌}
use mathlib.Core.Bool.{Bool, true, false, not, ◌||◌}
use mathlib.Core.List.{List, [], ◌++◌}
use Prim.Native.Nat.{ℕ, ◌≤◌, ◌<◌}
use native.Mathlib.Omega.{arith}
use lib.Dec.{leb, ltb, eqb}
use lib.ListN.{length}
use borrow.Author.Tests.{leb-true, leb-false, ltb-false, lt-ltb, le-ltb}
use Rattle.types.specs.Value.{halves, ticks_of}
use Rattle.words.specs.Words.{zeroes}
use Rattle.rules.specs.Base.{if◌then◌otherwise◌}
use Rattle.rules.specs.State as R
use Rattle.rules.specs.Answers.{Accepted, refusal_number, number}
use Rattle.rules.specs.Build.{BuildOut, build}
use Rattle.rules.proofs.Tests.{by_bool, or_right}
use Rattle.state.specs.declared.Header.{Header}
use Rattle.state.specs.declared.Counters.{Counters}
use Rattle.state.specs.View.{zero_counters}
use Rattle.build.specs.Initialized.{empty_header}
use Rattle.plan_file.specs.Plan.{Plan}
use Rattle.plan_rules.specs.Setup.{setup_of, too_long}
use Rattle.plan_rules.specs.Run.{ran}
use Rattle.plan_rules.specs.Listing
use Rattle.plan_rules.specs.Listing.{Rehearsal, listed, end_line, listing, once_built, rehearsed}
use Rattle.plan_rules.specs.Laws.{standing}
use Rattle.plan_rules.specs.Export.{handed_over}
use Rattle.plan_rules.proofs.Exports.{by_build, rehearsed_refused, rehearsed_ran}
use Rattle.plan_rules.proofs.Builds.{builds}
use Rattle.plan_rules.proofs.RefusalNumbers.{numbered}
use Rattle.plan_text.specs.Appends.{Listed, Holds}
use Rattle.plan_text.proofs.Appending.{listed_none}
use Rattle.plan_round.specs.Reached.{plan_of}
use Rattle.plan_run.specs.Ends.{EndsWith}
use Rattle.plan_run.specs.RunsBuilt.{RunsBuilt}
use Rattle.plan_rehearsal.specs.Rehearses.{HandsOver, number_for, early_number}

-- A text that the slice holds, or not.
pub hands_over : (text old new : List ℕ) (b : Bool) (r : ℕ) → Holds (length old) text new b → r ≡ number_for b → HandsOver (listed text) old new r
unfolding handed_over if◌then◌otherwise◌
hands_over text old new b r h e =
    by_bool (leb (length text) (length old))
    (λ t.
    let f = h.fits (leb-true (length text) (length old) t) in
    let n : r ≡ 0 = e ∙ ap number_for f.0 in
    rw t (λ j. record { number = n j; slice = f.1 j }))
    (λ t.
    let f = h.full (leb-false (length text) (length old) t) in
    let n : r ≡ 39 = e ∙ ap number_for f.0 in
    rw t (λ j. record { number = n j; slice = f.1 j }))

pub refuses : (k : ℕ) (old new : List ℕ) (b : Bool) (r : ℕ) → ((ls : List ℕ) → Listed old 0 ls → Holds (length old) (ls ++ end_line k 0 0 0) new b) → r ≡ number_for b → HandsOver (listed (end_line k 0 0 0)) old new r
refuses k old new b r h e = hands_over (end_line k 0 0 0) old new b r (h [] (listed_none old)) e

or_on : (a b : Bool) → b ≡ true → a || b ≡ true
or_on true b e = refl
or_on false b e = e

-- The rehearsal of a plan by the number that build gives it.
module _ (p : Plan) where
  pub build_refused : (n : ℕ) → n ≡ number (build (setup_of p) R.zeros).answer → 0 < n → rehearsed p ≡ listed (end_line n 0 0 0)
  unfolding rehearsed once_built number
  build_refused n e l =
      by_build (setup_of p) R.zeros (λ (b : BuildOut). 0 < number b.answer → once_built p (number b.answer) b.made ≡ listed (end_line (number b.answer) 0 0 0)) (λ r _. refl) (λ z. absurd (omega arith)) (rw e at l)
      ∙ ap (λ (k : ℕ). listed (end_line k 0 0 0)) (sym e)

  pub build_accepted : (n : ℕ) → n ≡ number (build (setup_of p) R.zeros).answer → n ≡ 0 → (build (setup_of p) R.zeros).answer ≡ Accepted
  unfolding number
  build_accepted n e z =
      by_build (setup_of p) R.zeros (λ (b : BuildOut). number b.answer ≡ 0 → b.answer ≡ Accepted) (λ r x. absurd (omega (arith, (numbered r).positive))) (λ _. refl) (sym e ∙ z)

  -- 1, 2 and 5 without rows.
  pub early_refused : (n : ℕ) → n ≡ early_number p.n p.lookahead (length p.edges) → 0 < n → rehearsed p ≡ listed (end_line n 0 0 0)
  unfolding early_number if◌then◌otherwise◌ refusal_number
  early_refused n e l =
      by_bool (eqb p.n 0 || ltb 64 p.n)
      (λ a. rehearsed_refused p _ ((builds p R.zeros).one a) ∙ ap (λ (k : ℕ). listed (end_line k 0 0 0)) (sym (rw a at e)))
      (λ a. by_bool (eqb p.lookahead 0)
      (λ b. rehearsed_refused p _ ((builds p R.zeros).two a b) ∙ ap (λ (k : ℕ). listed (end_line k 0 0 0)) (sym (rw (a, b) at e)))
      (λ b. by_bool (ltb 512 (length p.edges))
      (λ d. rehearsed_refused p _ ((builds p R.zeros).five a b (or_on (not (standing p)) (ltb 512 (length p.edges)) d)) ∙ ap (λ (k : ℕ). listed (end_line k 0 0 0)) (sym (rw (a, b, d) at e)))
      (λ d. let z : n ≡ 0 = rw (a, b, d) at e in absurd (omega arith))))

  pub record Early : Type 0 where
    pub processes : eqb p.n 0 || ltb 64 p.n ≡ false
    pub ahead : eqb p.lookahead 0 ≡ false
    pub few_edges : length p.edges ≤ 512
    pub few : p.n ≤ 64

  pub early_passed : (n : ℕ) → n ≡ early_number p.n p.lookahead (length p.edges) → n ≡ 0 → Early
  unfolding early_number if◌then◌otherwise◌
  early_passed n e z =
      by_bool (eqb p.n 0 || ltb 64 p.n)
      (λ a. let y : n ≡ 1 = rw a at e in absurd (omega arith))
      (λ a. by_bool (eqb p.lookahead 0)
      (λ b. let y : n ≡ 2 = rw (a, b) at e in absurd (omega arith))
      (λ b. by_bool (ltb 512 (length p.edges))
      (λ d. let y : n ≡ 5 = rw (a, b, d) at e in absurd (omega arith))
      (λ d. record { processes = a; ahead = b; few_edges = ltb-false 512 (length p.edges) d; few = ltb-false 64 p.n (or_right (eqb p.n 0) (ltb 64 p.n) a) })))

  pub fallen_refused : Early → standing p ≡ false → rehearsed p ≡ listed (end_line 5 0 0 0)
  unfolding refusal_number
  fallen_refused i s = rehearsed_refused p _ ((builds p R.zeros).five i.processes i.ahead (rw s))

-- The rehearsal is the one named.
pub by_rehearsal : (x y : Rehearsal) (old new : List ℕ) (r : ℕ) → x ≡ y → HandsOver y old new r → HandsOver x old new r
by_rehearsal x y old new r e h = h ∙ ap (λ (z : Rehearsal). handed_over z old) (sym e)

pub hands_zeros : (old new : List ℕ) → new ≡ zeroes (length old) → HandsOver (Listing.refused 39) old new 39
unfolding handed_over
hands_zeros old new e = λ j. record { number = 39; slice = e j }

-- The last line of a build that was refused.
no_ticks : ticks_of (record { hi = 0; lo = 0 }) ≡ 0
unfolding halves
no_ticks = refl

pub refusal_line : {m : ℕ} (k : ℕ) (h : Header) (c : Counters) (old new : List ℕ) (b : Bool) (r : ℕ) → k ≡ m → h ≡ empty_header → c ≡ zero_counters → EndsWith 0 k h c old new b → r ≡ number_for b → HandsOver (listed (end_line m 0 0 0)) old new r
refusal_line {m} k h c old new b r is e f g n =
    refuses m old new b r (λ ls i. subst (λ (text : List ℕ). Holds (length old) (ls ++ text) new b) (λ j. end_line (is j) ((ap (λ (x : Header). ticks_of x.gvt) e ∙ no_ticks) j) (f j).rounds (f j).null_messages) (g ls i)) n

-- The whole run.
pub ran_over : (s : List ℕ) → (build (setup_of (plan_of s)) R.zeros).answer ≡ Accepted → too_long (plan_of s) ≡ false → (old new : List ℕ) (b : Bool) (r : ℕ) → RunsBuilt s old new b → r ≡ number_for b → HandsOver (rehearsed (plan_of s)) old new r
ran_over s a l old new b r h e = by_rehearsal _ _ old new r (rehearsed_ran (plan_of s) a l) (hands_over (listing (ran (plan_of s))) old new b r h e)

-- 1, 2 and 5 in their order.
module _ (n L k : ℕ) (t : Bool) (is-1 : t ≡ eqb n 0 || ltb 64 n) where
  pub early_1 : t ≡ true → 1 ≡ early_number n L k
  unfolding early_number if◌then◌otherwise◌
  early_1 a = rw (sym is-1 ∙ a)

  module _ (a : t ≡ false) (u : Bool) (is-2 : u ≡ eqb L 0) where
    pub early_2 : u ≡ true → 2 ≡ early_number n L k
    unfolding early_number if◌then◌otherwise◌
    early_2 b = rw (sym is-1 ∙ a, sym is-2 ∙ b)

    pub early_5 : u ≡ false → 512 < k → 5 ≡ early_number n L k
    unfolding early_number if◌then◌otherwise◌
    early_5 b l = rw (sym is-1 ∙ a, sym is-2 ∙ b, lt-ltb 512 k l)

    pub early_0 : u ≡ false → k ≤ 512 → 0 ≡ early_number n L k
    unfolding early_number if◌then◌otherwise◌
    early_0 b l = rw (sym is-1 ∙ a, sym is-2 ∙ b, le-ltb 512 k l)

-- The test of `!t`.
pub falls : (t s : Bool) → t ≡ s → not t ≡ true → s ≡ false
falls true s e f = absurd (let z : ◌≡◌ {A = ℕ} 0 1 = cc in omega arith)
falls false s e f = sym e

pub stands : (t s : Bool) → t ≡ s → not t ≡ false → s ≡ true
stands true s e f = sym e
stands false s e f = absurd (let z : ◌≡◌ {A = ℕ} 0 1 = cc in omega arith)
