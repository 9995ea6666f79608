use Rattle.bits.specs.Bytes.{stream}
use Rattle.plan_file.specs.Plan.{Reply}
use Rattle.plan_replies.proofs.Noting.{Noting}
use Rattle.plan_replies.specs.Finds.{RepliesAt}
use mathlib.Core.List.{List}
use Rattle.plan_replies.proofs.note_places.Given as goal

abbrev pub invariant-loop-k : goal.invariant-loop-k
invariant-loop-k l = (rs : List Reply) → RepliesAt l.s l.at l.count rs → Noting (stream l.s) rs l.k l.p l.table
