-- A read by its tag.
use Rattle.std.specs.Prelude.{Result}
use mathlib.Core.Path.{◌≡◌, sym, subst}
use Prim.Native.Nat.{ℕ}
use borrow.Author.Tests.{ne_eqb}
use Rattle.rules.specs.Base.{if◌then◌otherwise◌}
use Rattle.rules.specs.State as R
use Rattle.rules.specs.State.{State}
use Rattle.rules.specs.Rows.{Out}
use Rattle.rules.specs.Reads.{read_gvt, read_counters, read_pending, read_earliest}
use Rattle.state.specs.declared.Runtime.{Runtime}
use Rattle.state.specs.declared.Counters.{Counters}
use Rattle.state.specs.declared.Refusal.{Refusal}
use Rattle.reads.specs.declared.Reading.{Reading}
use Rattle.reads.specs.Reads.{Reads}
use Rattle.call_faces.specs.Tags.{read_by}

module _ (tag : ℕ) where
  by_4 : tag ≡ 4 → read_by tag ≡ read_gvt
  unfolding read_by if◌then◌otherwise◌
  by_4 e = rw e

  by_5 : tag ≡ 5 → read_by tag ≡ read_counters
  unfolding read_by if◌then◌otherwise◌
  by_5 e = rw e

  by_6 : tag ≡ 6 → read_by tag ≡ read_pending
  unfolding read_by if◌then◌otherwise◌
  by_6 e = rw e

  by_other : (tag ≡ 4 → ⊥) → (tag ≡ 5 → ⊥) → (tag ≡ 6 → ⊥) → read_by tag ≡ read_earliest
  unfolding read_by if◌then◌otherwise◌
  by_other n4 n5 n6 = rw (ne_eqb tag 4 n4, ne_eqb tag 5 n5, ne_eqb tag 6 n6)

  module _ (s : Runtime) (c : Counters) (a : Result Reading Refusal) where
    abbrev Read : (State → R.Counters → Out) → Type 0
    Read rule = Reads rule s c a

    pub reads_4 : tag ≡ 4 → Read read_gvt → Read (read_by tag)
    reads_4 e g = subst Read (sym (by_4 e)) g

    pub reads_5 : tag ≡ 5 → Read read_counters → Read (read_by tag)
    reads_5 e g = subst Read (sym (by_5 e)) g

    pub reads_6 : tag ≡ 6 → Read read_pending → Read (read_by tag)
    reads_6 e g = subst Read (sym (by_6 e)) g

    pub reads_other : (tag ≡ 4 → ⊥) → (tag ≡ 5 → ⊥) → (tag ≡ 6 → ⊥) → Read read_earliest → Read (read_by tag)
    reads_other n4 n5 n6 g = subst Read (sym (by_other n4 n5 n6)) g
