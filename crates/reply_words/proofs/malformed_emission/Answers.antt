use Rattle.reply_words.proofs.Passing.{malformed_fallen, malformed_past, malformed_unknown, malformed_failed, malformed_long}
use Rattle.reply_words.proofs.malformed_emission.Goals as goal

pub returns-then-emitter-last : goal.returns-then-emitter-last
returns-then-emitter-last c = search malformed_fallen depth 1

pub returns-then-emitter-ge-MAX_PROCESSES : goal.returns-then-emitter-ge-MAX_PROCESSES
returns-then-emitter-ge-MAX_PROCESSES c = search malformed_past depth 1

pub returns-then-places-emitter-eq0 : goal.returns-then-places-emitter-eq0
returns-then-places-emitter-eq0 c = search malformed_unknown depth 1

pub returns-then-failed : goal.returns-then-failed
returns-then-failed c = search malformed_failed depth 1

pub returns : goal.returns
returns c = search malformed_long depth 1
