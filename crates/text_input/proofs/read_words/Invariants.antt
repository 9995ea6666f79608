use Rattle.std.proofs.Common.{◌≡◌, ◌+◌, length}
use Rattle.std.specs.Slice.Iter.{chunks_mut_rest, chunks_mut_size}
use Rattle.text_input.proofs.read_words.Given as goal

abbrev pub invariant-loop-block : goal.invariant-loop-block
invariant-loop-block l = (chunks_mut_size l.block-iterator ≡ 512) × (l.done + length (chunks_mut_rest l.block-iterator) ≡ length l.fn.w)
