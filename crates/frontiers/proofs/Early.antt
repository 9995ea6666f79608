-- A process whose first pending tick is below its frontier, sought from the first on.
use mathlib.Core.Path.{◌≡◌, refl, sym, ap, ◌∙◌}
use mathlib.Core.Bool.{Bool, true, false, ◌||◌}
use mathlib.Core.List.{List}
use Prim.Native.Nat.{ℕ, zero, suc, ◌+◌, ◌≤◌, ◌<◌}
use native.Mathlib.Omega.{arith}
use lib.Dec.{ltb}
use borrow.Author.Tests.{le-ltb}
use Rattle.types.specs.declared.SimTime.{SimTime}
use Rattle.types.specs.Value.{ticks_of}
use Rattle.words.specs.Words.{tab, tick_of, inbounds_of}
use Rattle.words.proofs.Tab.{tab_cong}
use Rattle.rules.specs.Base.{if◌then◌otherwise◌, Maybe, none, some, is_some, up_from, up_to, any}
use Rattle.rules.specs.State.{Event}
use Rattle.rules.specs.Pending.{first_of, tick_or, first_tick}
use Rattle.rules.specs.Frontiers.{safe, below, eligible, any_eligible}
use Rattle.rules.proofs.Fronts.{safe_le}
use Rattle.records.proofs.Passes.{Seeking, seeking_more, seeking_found, seeking_end}
use Rattle.inbound.specs.Inbound.{frontier_in}
use Rattle.inbound.proofs.Recording.{safe_in}
use Rattle.frontiers.specs.Tables.{FirstTicks}
use Rattle.frontiers.specs.InputFrontiers.{Eligible}

chosen : (b : Bool) (e : Event) → b ≡ is_some (if b then some e otherwise none)
unfolding if◌then◌otherwise◌ is_some
chosen true e = refl
chosen false e = refl

-- Without a pending event the tick is H, and no frontier is above H.
test_is : (k H : ℕ) (m : Maybe Event) → k ≤ H → ltb (tick_or m H) k ≡ is_some (below k m)
unfolding tick_or below is_some
test_is k H none h = le-ltb H k h
test_is k H (some e) h = chosen (ltb e.tick k) e

any_up : (g : ℕ → Bool) (i n : ℕ) → any g (up_from i n) ≡ any (λ x. x) (tab g i n)
unfolding any up_from tab
any_up g i zero = refl
any_up g i (suc n) = ap (λ b. g i || b) (any_up g (suc i) n)

-- What record and first ticks say of a process.
module _ (H : ℕ) (w f : List ℕ) where
  abbrev pub early : ℕ → Bool
  early p = ltb (tick_of f p) (frontier_in w H p)

  early_is : (n : ℕ) (q : List Event) (p : ℕ) → p < n → FirstTicks n q H f → early p ≡ is_some (eligible (inbounds_of n w) H q p)
  unfolding FirstTicks first_tick eligible
  early_is n q p h b = rw (← safe_in n H p w h, b p h) (test_is (safe (inbounds_of n w) H p) H (first_of q p) (safe_le (inbounds_of n w) H p))

  found : (n : ℕ) (r : Bool) → r ≡ any (λ x. x) (tab early 0 n) → Eligible n H w f r
  unfolding Eligible any_eligible up_to
  found n r e q b =
      e ∙ ap (any (λ x. x)) (tab_cong _ _ 0 n (λ p _ l. early_is n q p (omega arith) b)) ∙ sym (any_up (λ p. is_some (eligible (inbounds_of n w) H q p)) 0 n)

  module _ (n i : ℕ) (a b : SimTime) (t : Bool) (l : i < n) (s : Seeking (λ x. x) early n i) (ea : ticks_of a ≡ frontier_in w H i) (eb : ticks_of b ≡ tick_of f i) (et : t ≡ ltb (ticks_of b) (ticks_of a)) where
    tested : (x : Bool) → t ≡ x → early i ≡ x
    tested x e = rw (← ea, ← eb) (sym et ∙ e)

    pub late_passed : t ≡ false → Seeking (λ x. x) early n (i + 1)
    late_passed e = seeking_more (λ x. x) early n i l s (tested false e)

    pub early_found : t ≡ true → Eligible n H w f true
    early_found e = found n true (seeking_found (λ x. x) early n i l s (tested true e))

  pub none_early : (n i : ℕ) → n ≤ i → Seeking (λ x. x) early n i → Eligible n H w f false
  none_early n i l s = found n false (seeking_end (λ x. x) early n i l s)
