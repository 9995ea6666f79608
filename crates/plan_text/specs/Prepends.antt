-- A line that is made from its end to its front.
use Rattle.std.specs.Prelude.{◌≡◌, List, ◌++◌, ℕ, ◌+◌, length, drop}

-- From old to new, the text was written in front of what stands from `end` on, and r is where it begins.
pub record Prepends (old : List ℕ) (end : ℕ) (text new : List ℕ) (r : ℕ) : Type 0 where
  pub place : r + length text ≡ end
  pub stands : drop r new ≡ text ++ drop end old
