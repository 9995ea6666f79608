-- What carrying out all calls of a list of words promises.
use Rattle.std.specs.Prelude.{◌≡◌, List, ℕ, length}
use Rattle.rules.specs.History.{History, run_calls}
use Rattle.state.specs.declared.Header.{Header}
use Rattle.state.specs.View.{view, counters_of, zero_counters}
use Rattle.state.specs.ValidArrays.{ValidArrays}
use Rattle.call_list.specs.declared.RunResult.{RunResult}
use Rattle.call_words.specs.Decode.{decode_all}

pub record RunsCalls (h : Header) (edges pending processes batch w : List ℕ) (r : RunResult) (edges' pending' processes' batch' : List ℕ) : Type 0 where
  -- Of any history that came to the state given and has counted nothing, what is left is what it comes to with the decoded calls.
  pub state : (y : History) → y.now ≡ view h edges pending processes batch → y.counters ≡ counters_of zero_counters → (run_calls y (decode_all w)).now ≡ view r.head edges' pending' processes' batch'
  pub counters : (y : History) → y.now ≡ view h edges pending processes batch → y.counters ≡ counters_of zero_counters → (run_calls y (decode_all w)).counters ≡ counters_of r.counters
  -- How many were decoded.
  pub calls : r.calls ≡ length (decode_all w)
  -- 11 lets what is left pass.
  pub lent : ValidArrays r.head edges' pending' processes' batch'
