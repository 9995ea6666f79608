use Rattle.reply_words.specs.Emissions.{emissions_of}
use Rattle.hand_back_edges.specs.Looks.{look_in_table}
use Rattle.hand_back_check.specs.Checks.{CheckedTo}
use Rattle.hand_back_check.proofs.check_words.Given as goal

abbrev pub invariant-loop-i : goal.invariant-loop-i
invariant-loop-i l = CheckedTo l.lent.head (look_in_table l.lent.edges.now l.table l.places) l.places l.lent.processes.now l.lent.batch.now l.initial.a (emissions_of l.i l.reply) l.a
