use Rattle.plan_reader.proofs.id_at.Goals as goal
-- `plan_reader::id_at` meets its contract.
use lib.ListN.{drop}
use Rattle.bits.specs.Bytes.{stream}
use mathlib.Core.Path.{◌∙◌, ap}
use Rattle.types.specs.Value.{id_of_word}
use Rattle.plan_reader.proofs.Values.{id_of_field}

pub returns : goal.returns
returns c =
    let a = c.args in
    c.from_word.ensures ∙ ap id_of_word c.read.ensures ∙ id_of_field (drop a.at (stream a.s.now))
