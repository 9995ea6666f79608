-- What each return of begin gives.
use Rattle.std.specs.Prelude.{Ok, Err}
use mathlib.Core.Path.{◌≡◌, refl, sym, ap, ◌∙◌}
use mathlib.Core.Bool.{Bool, true, false, not}
use mathlib.Core.List.{List}
use Prim.Native.Nat.{ℕ}
use native.Mathlib.Omega.{arith}
use lib.Dec.{leb, ltb}
use borrow.Author.Tests.{ltb-true, ltb-false, le-leb, lt-leb}
use Rattle.types.specs.declared.SimTime.{SimTime}
use Rattle.types.specs.Value.{ticks_of}
use Rattle.rules.specs.Base.{if◌then◌otherwise◌}
use Rattle.rules.specs.State.{State, Counters, with_run, max_tick}
use Rattle.rules.specs.Answers as A
use Rattle.rules.specs.Rows.{unless, out, refuse}
use Rattle.rules.specs.Foreign.{foreign}
use Rattle.rules.specs.Begin.{previous, begin}
use Rattle.state.specs.declared.Header.{Header}
use Rattle.records.specs.Records.{events_of}
use Rattle.state.specs.declared.Refusal.{Refusal}
use Rattle.state.specs.declared.Refusal.TheVariants as P
use Rattle.state.specs.View.{view, stored_of, answer_of}
use Rattle.state.proofs.Moves.{accepted_moves}
use Rattle.begin_run.specs.Begins.{BeginRefusal}

pub last_stored : (b : _) (h k : ℕ) → b ≡ true → h ≡ previous (stored_of b h k)
unfolding previous
last_stored b h k e = rw e

pub last_unset : (b : _) (h k z : ℕ) → b ≡ false → z ≡ 0 → z ≡ previous (stored_of b h k)
unfolding previous
last_unset b h k z e f = rw (e, f)

-- The rows, each with those before it passed.
module _ (s : State) (c : Counters) (h b : ℕ) (f : foreign s ≡ false) where
  row_12 : s.poisoned ≡ true → begin s c h b ≡ refuse s c A.Poisoned
  unfolding begin unless if◌then◌otherwise◌
  row_12 p = rw (f, p)

  module _ (p : s.poisoned ≡ false) where
    row_20 : s.running ≡ true → begin s c h b ≡ refuse s c A.RunOpen
    unfolding begin unless if◌then◌otherwise◌
    row_20 r = rw (f, p, r)

    module _ (r : s.running ≡ false) where
      row-21 : ltb h (previous s.stored) ≡ true → begin s c h b ≡ refuse s c (A.HorizonRegression (previous s.stored) h)
      unfolding begin unless if◌then◌otherwise◌
      row-21 l = rw (f, p, r, l)

      row-22 : ltb h (previous s.stored) ≡ false → leb max_tick h ≡ true → begin s c h b ≡ refuse s c (A.HorizonOverflow h)
      unfolding begin unless if◌then◌otherwise◌
      row-22 l t = rw (f, p, r, l, t)

      accepted : ltb h (previous s.stored) ≡ false → leb max_tick h ≡ false → begin s c h b ≡ out A.Accepted (with_run s h b) c
      unfolding begin unless if◌then◌otherwise◌
      accepted l t = rw (f, p, r, l, t)

-- Row 22 as the program tests it.
pub at_top : (m t h : ℕ) (x : Bool) → m ≡ t → x ≡ ltb h m → not x ≡ leb t h
at_top m t h true e l = sym (lt-leb t h (omega (arith, ltb-true h m (sym l))))
at_top m t h false e l = sym (le-leb t h (omega (arith, ltb-false h m (sym l))))

-- The same of the header, from the program's tests.
module _ (h : Header) (t : SimTime) where
  left : (e : Refusal) → ((E Q Z B : List ℕ) (c : Counters) (b : ℕ) → foreign (view h E Q Z B) ≡ false → out (answer_of (events_of h.batch B) (Err e)) (view h E Q Z B) c ≡ begin (view h E Q Z B) c (ticks_of t) b) → BeginRefusal h t (Err e)
  left e g = λ b. record { gives = λ E Q Z B c f. g E Q Z B c b f; kept = λ es x. refl }

  pub poisoned : h.poisoned ≡ true → BeginRefusal h t (Err P.Poisoned)
  poisoned p = left _ (λ E Q Z B c b f. sym (row_12 (view h E Q Z B) c (ticks_of t) b f p))

  module _ (p : h.poisoned ≡ false) where
    pub run_open : h.running ≡ true → BeginRefusal h t (Err P.RunOpen)
    run_open r = left _ (λ E Q Z B c b f. sym (row_20 (view h E Q Z B) c (ticks_of t) b f p r))

    module _ (r : h.running ≡ false) (m : SimTime) (e : ticks_of m ≡ previous (stored_of h.stored (ticks_of h.horizon) h.budget)) where
      before : (x u : Bool) → x ≡ ltb (ticks_of t) (ticks_of m) → x ≡ u → ltb (ticks_of t) (previous (stored_of h.stored (ticks_of h.horizon) h.budget)) ≡ u
      before x u y l = ap (ltb (ticks_of t)) (sym e) ∙ sym y ∙ l

      pub regression : (x : Bool) → x ≡ ltb (ticks_of t) (ticks_of m) → x ≡ true → BeginRefusal h t (Err (P.HorizonRegression m t))
      regression x y l = left _ (λ E Q Z B c b f.
          ap (λ (x : ℕ). refuse (view h E Q Z B) c (A.HorizonRegression x (ticks_of t))) e
          ∙ sym (row-21 (view h E Q Z B) c (ticks_of t) b f p r (before x true y l)))

      module _ (x : Bool) (y : x ≡ ltb (ticks_of t) (ticks_of m)) (l : x ≡ false) (u : Bool) (v : u ≡ leb max_tick (ticks_of t)) where
        pub overflow : u ≡ true → BeginRefusal h t (Err (P.HorizonOverflow t))
        overflow o = left _ (λ E Q Z B c b f. sym (row-22 (view h E Q Z B) c (ticks_of t) b f p r (before x false y l) (sym v ∙ o)))

        pub begun : u ≡ false → BeginRefusal h t (Ok tt)
        begun o = λ b. record {
          gives = λ E Q Z B c f. sym (accepted (view h E Q Z B) c (ticks_of t) b f p r (before x false y l) (sym v ∙ o));
          kept = λ es x. accepted_moves x;
        }
