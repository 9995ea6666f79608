use Rattle.call_list.proofs.execute_add_or_begin.Goals as goal

pub returns : goal.returns
returns c = c.add_or_begin-headed.ensures _
