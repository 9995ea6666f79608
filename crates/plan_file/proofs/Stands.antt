-- A list that stands at a place: its first value stands there, and the others where reading that one ended.
use Prim.Native.Nat.{ℕ, ◌≤◌}
use mathlib.Core.Path.{◌≡◌, ap, ◌∙◌}
use mathlib.Core.Bool.{Bool}
use mathlib.Core.List.{List, ◌∷◌}
use lib.ListN.{length, drop}
use Rattle.rules.proofs.Lists.{All}
use Rattle.plan_file.specs.Format.{Got.got, Format, gets}
use Rattle.plan_file.specs.Standing.{Standing}
use Rattle.plan_file.proofs.Reading.{FirstParts, first_parts, gets_all}

module _ {A : Type 0} {f : Format A} {b : List Bool} {at : ℕ} {x : A} {xs : List A} (g : Standing f b at (x ∷ xs)) where
  parts : FirstParts f (length xs) (drop at b) x xs g.behind
  parts = first_parts f (length xs) (drop at b) x xs g.behind g.reads

  -- The bits behind the first.
  pub after_first : List Bool
  after_first = parts.between

  pub first_stands : f.get (drop at b) ≡ got x after_first
  unfolding after_first
  first_stands = parts.first

  pub others_stand : (next : ℕ) → drop next b ≡ after_first → next ≤ length b → Standing f b next xs
  unfolding after_first
  others_stand next e h = record { behind = g.behind; reads = ap (gets f (length xs)) e ∙ parts.others; inside = h }

pub standing_in : {A : Type 0} {f : Format A} {b : List Bool} {at : ℕ} {xs : List A} → Standing f b at xs → All f.In xs
standing_in {A} {f} {b} {at} {xs} g = gets_all f (length xs) (drop at b) xs g.behind g.reads
