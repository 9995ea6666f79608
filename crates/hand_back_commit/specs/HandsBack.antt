-- What hand back gives, in the words of the rules.
use Rattle.std.specs.Prelude.{◌≡◌, true, List, ℕ}
use Rattle.records.specs.Records.{events_of}
use Rattle.rules.specs.State.{Event}
use Rattle.rules.specs.Rows.{out}
use Rattle.rules.specs.HandBack.{Emission, hand_back}
use Rattle.state.specs.declared.Header.{Header}
use Rattle.state.specs.declared.Counters.{Counters}
use Rattle.state.specs.declared.CoreResult.{CoreResult}
use Rattle.state.specs.View.{view, counters_of, answer_of}
use Rattle.state.specs.AsGiven.{leaves_state_as_given, SameAsGiven}

-- What the core of hand back promises. The edges are not touched.
pub record HandsBack (h : Header) (c : Counters) (edges pending processes batch : List ℕ) (mask : ℕ) (xs : List Emission) (r : CoreResult) (pending' processes' batch' : List ℕ) : Type 0 where
  pub gives : out (answer_of (events_of r.head.batch batch') r.answer) (view r.head edges pending' processes' batch') (counters_of r.counters) ≡ hand_back (view h edges pending processes batch) (counters_of c) mask xs
  pub kept : (es : List Event) → leaves_state_as_given (answer_of es r.answer) ≡ true → SameAsGiven h c edges pending processes batch r edges pending' processes' batch'
