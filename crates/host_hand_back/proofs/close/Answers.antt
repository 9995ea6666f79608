use Rattle.host_hand_back.proofs.Closing.{closes_as_given, closes_committed, closes_poisoned}
use Rattle.host_hand_back.proofs.close.Goals as goal

pub returns-in-Err-default : goal.returns-in-Err-default
returns-in-Err-default c = rw c.in-Err-default.is-0 (closes_as_given c.args.state c.args.counters _ _ _ _ c.as_given.ensures)

pub commit-requires : goal.commit-requires
commit-requires c = rw (c.in-Ok-Ok.is-0, c.in-Ok-Ok.is-1) at c.requires

pub returns-in-Ok-Ok : goal.returns-in-Ok-Ok
returns-in-Ok-Ok c = rw (c.in-Ok-Ok.is-0, c.in-Ok-Ok.is-1) (closes_committed c.args.state c.args.counters _ _ _ _ c.commit.ensures)

pub poison-requires : goal.poison-requires
poison-requires c = rw (c.in-Ok-Err.is-0, c.in-Ok-Err.is-1) at c.requires

pub returns-in-Ok-Err : goal.returns-in-Ok-Err
returns-in-Ok-Err c = rw (c.in-Ok-Err.is-0, c.in-Ok-Err.is-1) (closes_poisoned c.args.state c.args.counters _ _ _ _ c.poison.ensures)
