use borrow.Author.Rules.{rules}
use native.Mathlib.Omega.{arith}
use Rattle.hand_back.proofs.ReplyChecking.{review_begun, review_finds, review_looks, reviewed}
use Rattle.hand_back.proofs.review_with.Goals as goal

pub find_edges-requires : goal.find_edges-requires
find_edges-requires g c =
    review_finds c.args.lent.head _ _ _ c.args.start _ _ c.requires.1 g.row.WORDS (omega arith) _ (search rules)

pub check_words-requires : goal.check_words-requires
check_words-requires g c =
    (review_begun c.args.lent.head _ _ _ c.args.start _ _ c.requires.1, review_looks c.args.lent.head _ _ _ c.args.start _ _ c.requires.1 _ (search rules) c.find_edges.ensures, c.requires.2)

pub returns : goal.returns
returns g c =
    reviewed c.args.lent.head _ _ _ c.args.start _ _ c.requires.1 _ (search rules) c.find_edges.ensures _ _ c.check_words.ensures
