use borrow.Author.Rules.{rules}
use Rattle.types.specs.Value.{id_of_word}
use Rattle.types.proofs.LpId.from_word.Goals as goal

pub returns : goal.returns
unfolding id_of_word
returns c = search rules
