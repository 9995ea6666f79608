use native.Mathlib.Omega.{arith}
use mathlib.Core.Path.{refl}
use Rattle.plan_text.proofs.Digits.{nibble_low, nibble_high}
use Rattle.plan_text.proofs.hex_digit.Goals as goal

pub returns-then-d-lt10 : goal.returns-then-d-lt10
returns-then-d-lt10 c = nibble_low _ _ (omega arith) refl

pub returns : goal.returns
returns c = nibble_high _ _ (omega arith) refl
