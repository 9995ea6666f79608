-- What a check says, and the rows of one emission.
use Rattle.std.specs.Prelude.{◌≡◌, false, List, [], ◌∷◌, ◌++◌, ℕ, ◌≤◌, ltb, length, Result, Ok, Err}
use Rattle.types.specs.declared.SimTime.{SimTime}
use Rattle.types.specs.Value.{ticks_of, lp_id_of}
use Rattle.rules.specs.Base.{any}
use Rattle.rules.specs.State.{State, Counters, poison}
use Rattle.rules.specs.Answers as A
use Rattle.rules.specs.Rows.{Row, ◌⇒◌, unless, Out, out}
use Rattle.rules.specs.Pending.{route, lookahead_along}
use Rattle.rules.specs.Foreign.{without_lookahead}
use Rattle.rules.specs.HandBack.{Emission, message_rows, straggler_row, poison_with}
use Rattle.records.specs.Records.{edges_of}
use Rattle.reply_words.specs.declared.Emission as W
use Rattle.reply_words.specs.Emissions.{emission_of}
use Rattle.state.specs.declared.Header.{Header}
use Rattle.state.specs.declared.Refusal as P
use Rattle.state.specs.View.{view, refusal_of}

-- What a check says of a table of rows that poison: none decides, or one refuses.
unfoldable pub ChecksRows : List Row → Result (Unit {0}) P.Refusal → Type 0
ChecksRows rows (Ok _) = (f : A.Refusal → Out) (d : Out) → unless rows f d ≡ d
ChecksRows rows (Err x) = (s : State) (c : Counters) (d : Out) → unless rows (poison_with s c) d ≡ out (A.Refused (refusal_of x)) (poison s) c

-- 32 and 33 of the emission x, whose event has the tick t, by its minimum and its destination's local horizon.
unfoldable pub tick_rows : Emission → ℕ → ℕ → ℕ → List Row
tick_rows x t least local =
    (ltb x.message.tick least ⇒ A.OutboundLookaheadViolation x.emitter t x.message.tick least)
    ∷ (ltb x.message.tick local ⇒ A.Straggler x.message.destination x.message.tick local)
    ∷ []

-- 28 to 33 of the emission x, whose event has the tick t.
unfoldable pub rows_of : State → ℕ → Emission → List Row
rows_of s t x = message_rows s.n (route s.edges) (lookahead_along s.edges x.emitter x.message.destination) x.emitter t x.message ++ (straggler_row s x.message ∷ [])

-- What 28 to 33 ask: the words of the processes are there.
pub record CanCheck (h : Header) (processes : List ℕ) : Type 0 where
  pub few : h.n ≤ 64
  pub process_words : length processes ≡ 256

-- For any edges that have lookaheads above 0, and L from e's emitter to its destination, whatever the pending words and those in hand are: 28 to 33 read neither.
unfoldable pub ChecksEmission : Header → ℕ → List ℕ → W.Emission → SimTime → Result (Unit {0}) P.Refusal → Type 0
ChecksEmission h L Z e time r = (E P B : List ℕ) → any without_lookahead (edges_of h.edges E) ≡ false → L ≡ lookahead_along (edges_of h.edges E) (lp_id_of e.emitter) (lp_id_of e.destination)
    → ChecksRows (rows_of (view h E P Z B) (ticks_of time) (emission_of e)) r
