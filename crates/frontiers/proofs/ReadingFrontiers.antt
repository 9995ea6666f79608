-- Input frontiers take the place of the first ticks, from the last process to the first.
use mathlib.Core.Path.{◌≡◌, ◌∙◌}
use mathlib.Core.List.{List}
use Prim.Native.Nat.{ℕ, ◌-◌, ◌*◌, ◌≤◌, ◌<◌, min}
use native.Mathlib.Omega.{arith}
use lib.ListN.{length}
use Rattle.types.specs.declared.SimTime.{SimTime}
use Rattle.types.specs.Value.{ticks_of}
use Rattle.words.specs.Words.{tick_of, put_tick}
use Rattle.words.proofs.Tab.{Pass, pass_start, pass_more}
use Rattle.words.proofs.Ticks.{table_same, table_other}
use Rattle.inbound.specs.Inbound.{frontier_in}
use Rattle.frontiers.specs.InputFrontiers.{ReadsFrontiers}

module _ (n H : ℕ) (w f₀ : List ℕ) where
  abbrev frontier_at : ℕ → ℕ → ℕ
  frontier_at k t = min (frontier_in w H k) t

  -- The processes from i on have their input frontiers.
  pub record Reading (i : ℕ) (f : List ℕ) : Type 0 where
    pub pass : Pass tick_of frontier_at n f₀ i f

  pub reading_start : Reading n f₀
  reading_start = record { pass = pass_start tick_of frontier_at n f₀ }

  pub reading_more : (i : ℕ) (f u : List ℕ) (a b t : SimTime) → 0 < i → i ≤ n → n ≤ 64 → length f ≡ 128 → Reading i f → ticks_of a ≡ frontier_in w H (i - 1) → ticks_of b ≡ tick_of f (i - 1)
      → ticks_of t ≡ min (ticks_of a) (ticks_of b) → u ≡ put_tick f (2 * (i - 1)) t → Reading (i - 1) u
  reading_more i f u a b t h within few l g ea eb et eu = record {
    pass = pass_more tick_of frontier_at n i f₀ f u h g.pass
        (rw eu (table_same f (i - 1) t (omega arith)) ∙ et ∙ rw (ea, eb))
        (λ k ne. rw eu (table_other f (i - 1) k t ne));
  }

  pub reading_end : (i : ℕ) (f : List ℕ) → i ≤ 0 → Reading i f → ReadsFrontiers n H w f₀ f
  unfolding ReadsFrontiers
  reading_end i f z g p h = g.pass.done p (omega arith) h
