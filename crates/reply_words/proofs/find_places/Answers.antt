use borrow.Author.Rules.{rules}
use native.Mathlib.Omega.{arith}
use Rattle.reply_words.proofs.Table.{owner_next, empty_length, placing_start, placing_more, placing_end}
use Rattle.reply_words.proofs.find_places.Goals as goal

pub loop-i-init : goal.loop-i-init
loop-i-init c = (empty_length _ c.requires.1, placing_start _ _ _ c.requires.1)

pub offset_bounds-places-p : goal.offset_bounds-places-p
offset_bounds-places-p c =
    let below = owner_next _ c.args.count _ c.loop-i-test.true (search rules) c.requires.2 in
    record { fits = omega arith }

pub bounds-places-p : goal.bounds-places-p
bounds-places-p c = search (owner_next, rules)

pub loop-i-preserved : goal.loop-i-preserved
loop-i-preserved c = search (placing_more, rules)

pub returns : goal.returns
returns c = search placing_end depth 1
