use Prim.Native.Nat.{ℕ}
use lib.Dec.{ltb}
use borrow.Author.Rules.{rules}
use Rattle.std.proofs.lemmas.List.Sorted.{answers_always}
use Rattle.build_ids.proofs.RisingLists.{rising_answer}
use Rattle.build_ids.proofs.rising.Goals as goal

pub returns : goal.returns
returns c = rising_answer _ _ (c.is_sorted_by.ensures.cases (λ (x y : ℕ). ltb x y) (answers_always _ _ _ (λ f a r g h. search rules)))
