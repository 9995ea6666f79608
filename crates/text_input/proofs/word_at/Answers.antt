use mathlib.Core.Path.{◌∙◌}
use Rattle.text_input.proofs.Bytes.{word_is}
use Rattle.text_input.proofs.word_at.Goals as goal

pub returns : goal.returns
returns c =
    let chunk = rw c.unwrap.ensures at c.first_chunk.ensures.cases in
    c.from_le_bytes.ensures ∙ word_is _ _ _ c.requires chunk.same
