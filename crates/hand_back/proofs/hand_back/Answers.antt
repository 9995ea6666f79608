use Rattle.hand_back.proofs.ReplyChecking.{ready, can_commit, handed_as_given, handed_back}
use Rattle.hand_back.proofs.hand_back.Goals as goal

pub check_reply-requires : goal.check_reply-requires
check_reply-requires c =
    (ready c.args.head _ _ _ _ c.requires, c.requires.process_words, c.requires.batch_words)

pub commit-requires : goal.commit-requires
commit-requires c =
    can_commit c.args.head c.args.counters _ _ _ _ c.args.mask _ c.requires c.in-Ok.check c.in-Ok.ensures

pub returns-in-Ok : goal.returns-in-Ok
returns-in-Ok c =
    handed_back c.args.head c.args.counters _ _ _ _ c.args.mask _ c.requires c.in-Ok.check c.in-Ok.ensures _ _ _ _ c.commit.ensures

pub returns-in-Err : goal.returns-in-Err
returns-in-Err c =
    handed_as_given c.args.head c.args.counters _ _ _ _ c.args.mask _ c.requires _ c.in-Err.ensures _ c.as_given.ensures
