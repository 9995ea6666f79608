use mathlib.Core.Path.{ap}
use Rattle.state.specs.declared.Header.{Header}
use Rattle.words.specs.Words.{zeroes}
use Rattle.build.proofs.empty_runtime.Goals as goal

pub returns : goal.returns
returns c = ap (λ (h : Header). record { edges = zeroes 3072; pending = zeroes 4096; processes = zeroes 256; batch = zeroes 512; head = h }) c.empty_header.ensures
