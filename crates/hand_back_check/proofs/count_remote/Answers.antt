use Rattle.hand_back_check.proofs.Next.{at_home, remote}
use Rattle.hand_back_check.proofs.count_remote.Goals as goal

pub returns-then-eq : goal.returns-then-eq
returns-then-eq c = search at_home depth 1

pub returns : goal.returns
returns c = search remote depth 1
