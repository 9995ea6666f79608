-- An answer is a refusal where its number is above 0.
use Prim.Native.Nat.{ℕ, ◌<◌}
use mathlib.Core.Path.{◌≡◌, refl}
use mathlib.Core.Bool.{true, false}
use native.Mathlib.Omega.{arith}
use Rattle.std.proofs.Common.{Result, Ok, Err, is_err, []}
use Rattle.state.specs.declared.Answer.{Answer}
use Rattle.state.specs.declared.Refusal.{Refusal}
use Rattle.state.specs.View.{refusal_of}
use Rattle.state.specs.Numbers.{number_of}
use Rattle.state.proofs.Numbering as state
use Rattle.plan_rules.proofs.RefusalNumbers.{numbered}
use Rattle.rules.specs.Answers.{number}

-- A refusal has a number above 0.
pub refused_number : (r : Refusal) → 0 < number_of (Err r)
unfolding number
refused_number r = rw (state.numbered [] (Err r) _ refl) ((numbered (refusal_of r)).positive)

pub refused_positive : (a : Result Answer Refusal) → is_err a ≡ true → 0 < number_of a
refused_positive (Ok x) e = absurd (let z : ◌≡◌ {A = ℕ} 0 1 = cc in omega arith)
refused_positive (Err r) e = refused_number r

pub accepted_zero : (a : Result Answer Refusal) → is_err a ≡ false → number_of a ≡ 0
accepted_zero (Ok x) e = refl
accepted_zero (Err r) e = absurd (let z : ◌≡◌ {A = ℕ} 0 1 = cc in omega arith)
