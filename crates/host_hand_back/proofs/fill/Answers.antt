use borrow.Author.Rules.{rules}
use Rattle.host_hand_back.proofs.Filling.{filled}
use Rattle.host_hand_back.proofs.fill.Goals as goal

pub returns : goal.returns
returns c =
    filled _ _ _ _ _ _ _ c.requires.0 c.requires.1 c.requires.2 c.requires.3 c.copy_from_slice.ensures.after c.copy_from_slice-2.ensures.after c.copy_from_slice-3.ensures.after (search rules) (search rules) (search rules)
