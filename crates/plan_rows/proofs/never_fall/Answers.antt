use Prim.Native.Nat.{ℕ}
use lib.Dec.{leb}
use lib.Seq.{take_all}
use borrow.Author.Rules.{rules}
use Rattle.std.proofs.lemmas.List.Sorted.{answers_always}
use Rattle.plan_rows.proofs.Filling.{rising_answer_of}
use Rattle.plan_rows.proofs.never_fall.Goals as goal

pub returns : goal.returns
returns c = rising_answer_of _ _ _ (c.is_sorted_by.ensures.cases (λ (x y : ℕ). leb x y) (answers_always _ _ _ (λ f a r g h. search rules))) (search (rules, take_all))
