-- What a core that is lent all four arrays asks: their lengths, and that 11 lets the state pass.
use Rattle.std.specs.Prelude.{◌≡◌, false, List, ℕ, length}
use Rattle.rules.specs.Foreign.{foreign}
use Rattle.state.specs.declared.Header.{Header}
use Rattle.state.specs.View.{view}

pub record ValidArrays (h : Header) (edges pending processes batch : List ℕ) : Type 0 where
  pub edge_words : length edges ≡ 3072
  pub pending_words : length pending ≡ 4096
  pub process_words : length processes ≡ 256
  pub batch_words : length batch ≡ 512
  pub passes : foreign (view h edges pending processes batch) ≡ false
