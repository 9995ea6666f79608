use borrow.Author.Rules.{rules}
use Rattle.hand_back.proofs.ReplyChecking.{whole, enqueueable, endable, committed, lost}
use Rattle.hand_back.proofs.commit.Goals as goal

pub poison-requires : goal.poison-requires
poison-requires c =
    c.requires.batch_words

pub returns-in-Err : goal.returns-in-Err
returns-in-Err c =
    lost c.args.reply.now c.args.head c.args.counters _ _ _ c.args.check c.requires c.final_check-verdict.result c.final_check-verdict.ensures _ c.in-Err.is _ _ c.poison.ensures

pub enqueue_words-requires : goal.enqueue_words-requires
enqueue_words-requires c =
    (enqueueable c.args.reply.now c.args.head c.args.counters _ _ _ c.args.check c.requires c.final_check-verdict.result c.final_check-verdict.ensures c.in_default.is, whole c.args.reply.now)

pub commit_round-requires : goal.commit_round-requires
commit_round-requires c =
    endable c.args.reply.now c.args.head c.args.counters _ _ _ c.args.check c.requires c.final_check-verdict.result c.final_check-verdict.ensures c.in_default.is _ (search rules)

pub returns : goal.returns
returns c =
    committed c.args.reply.now c.args.head c.args.counters _ _ _ c.args.check c.requires c.final_check-verdict.result c.final_check-verdict.ensures c.in_default.is _ _ c.enqueue_words.ensures _ _ _ c.commit_round.ensures
