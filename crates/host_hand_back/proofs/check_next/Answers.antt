use Rattle.host_hand_back.proofs.check_next.Goals as goal

pub returns : goal.returns
returns c = rw c.lookahead_in-lookahead.ensures at c.check.ensures
