-- What each return of the export gives.
use mathlib.Core.Path.{◌≡◌, sym, ap, ◌∙◌}
use mathlib.Core.List.{List}
use Prim.Native.Nat.{ℕ, ◌<◌}
use native.Mathlib.Omega.{arith}
use Rattle.plan_file.specs.File.{Answer, contents, decode, number_of}
use Rattle.std.proofs.Common.{Result, Ok}
use Rattle.plan_file.specs.Checks.{Checks, check_number}
use Rattle.plan_file.specs.declared.Parts.{Parts}
use Rattle.plan_file.specs.declared.FileRefusal.{FileRefusal}
use Rattle.plan_file.proofs.Numbers.{Contents, contents_of, refused_of}
use Rattle.plan_rules.specs.Export.{exported, exported_of}
use Rattle.plan_rules.proofs.Exports.{exported_unread}
use Rattle.plan_round.specs.Reached.{contents_of_file, plan_of}
use Rattle.plan_rehearsal.specs.Rehearses.{Checked, Rehearses}
use Rattle.dorrezubi.specs.Exports.{Exports}

-- 37 and 38 leave the slice as it was: of the number alone, so that a search finds it.
pub refused_is_unread : (s old : List ℕ) (n : ℕ) → n ≡ number_of (decode s) → 0 < n → exported s old ≡ record { number = n; slice = old }
refused_is_unread s old n e l = exported_unread s old n (refused_of s (λ z. absurd (omega arith)) ∙ ap Answer.refused (sym e))

module _ (s : List ℕ) (r : Result Parts FileRefusal) (i : Checks s r) (parts : Parts) (e : r ≡ Ok parts) where
  content : Contents s
  content = contents_of s (sym i.number ∙ ap check_number e)

  plan_is : decode s ≡ contents (plan_of s)
  unfolding plan_of
  plan_is = content.is ∙ ap (λ (a : Answer). contents (contents_of_file a)) (sym content.is)

  pub checked : Checked s parts
  checked = record { read = plan_is; parts_of = rw e at (i.parts (plan_of s) plan_is) }

  pub exports : (old new : List ℕ) (n : ℕ) → Rehearses s old new n → Exports s old new n
  unfolding exported exported_of
  exports old new n h = h ∙ sym (ap (λ (a : Answer). exported_of a old) plan_is)
