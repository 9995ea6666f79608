-- What the check of a reply asks, and how far it has come, in the words of the rules.
use Rattle.std.specs.Prelude.{◌≡◌, Bool, true, false, List, ◌++◌, ℕ, ◌-◌, ◌≤◌, length, get_or, Option, Result, Ok, Err, MatchResult}
use Rattle.types.specs.declared.LpId.{LpId}
use Rattle.types.specs.Value.{lp_id_of}
use Rattle.rules.specs.Base.{any, count}
use Rattle.rules.specs.State.{saturating_add}
use Rattle.rules.specs.Rows.{Row}
use Rattle.rules.specs.Pending.{first_tick, lookahead_along}
use Rattle.rules.specs.Foreign.{without_lookahead}
use Rattle.rules.specs.HandBack.{Emission, is_remote}
use Rattle.records.specs.Records.{event_at, edges_of, events_of}
use Rattle.hand_back_edges.specs.Looks.{Looks}
use Rattle.reply_words.specs.declared.Emission as W
use Rattle.reply_words.specs.Emissions.{emission_of}
use Rattle.reply_words.specs.Replies.{Places, malformed_emission, any_malformed_emission}
use Rattle.hand_back_emission.specs.Checks.{ChecksRows}
use Rattle.state.specs.declared.Header.{Header}
use Rattle.state.specs.declared.Refusal.{Refusal}
use Rattle.state.specs.declared.Refusal.TheVariants as P
use Rattle.state.specs.View.{view}
use Rattle.hand_back_check.specs.declared.ReplyCheck.{ReplyCheck}
use Rattle.hand_back_check.specs.EmissionRows.{last_of, counted, rows_of_next, rows_up_to}

-- What a check asks: the table of places T, the table of the processes Z and the words of the batch B are there, and T is of the batch.
pub record Checkable (h : Header) (T Z B : List ℕ) : Type 0 where
  pub few : h.n ≤ 64
  pub few_batch : h.batch ≤ 64
  pub place_words : length T ≡ 64
  pub process_words : length Z ≡ 256
  pub batch_words : length B ≡ 512
  pub places : Places (events_of h.batch B) T

-- No emission is checked yet; the emission of p is checked.
abbrev pub start_of : ℕ → Option LpId → ReplyCheck
start_of mask f = record { last = 0; remote = 0; mask = mask; failed = f; outcome = Ok tt }

abbrev pub checked_as : ReplyCheck → ℕ → ℕ → Result (Unit {0}) Refusal → ReplyCheck
checked_as a p remote v = record { last = p; remote = remote; mask = a.mask; failed = a.failed; outcome = v }

-- The tick of p's event in hand, by the table of places.
abbrev pub tick_of : List ℕ → List ℕ → ℕ → ℕ
tick_of T B p = (event_at B (get_or T p 0 - 1)).tick

-- A verdict of rows, with those of the emission e behind them, for any edges that have lookaheads above 0, and L from e's emitter to its destination, whatever the pending words and those in hand are: 28 to 33 read neither.
unfoldable pub NextResult : Header → ℕ → List ℕ → ℕ → ReplyCheck → W.Emission → Result (Unit {0}) Refusal → Type 0
NextResult h L Z t a e v = (E Q B : List ℕ) → any without_lookahead (edges_of h.edges E) ≡ false → L ≡ lookahead_along (edges_of h.edges E) (lp_id_of e.emitter) (lp_id_of e.destination) → (rs : List Row) → ChecksRows rs a.outcome
    → ChecksRows (rs ++ rows_of_next (view h E Q Z B) a.failed t (emission_of e)) v

-- The emission e is checked, L being the lookahead of its edge, where the check had come as far as a.
pub record ChecksNext (h : Header) (L : ℕ) (T Z B : List ℕ) (a : ReplyCheck) (e : W.Emission) (r : ReplyCheck) : Type 0 where
  pub same_mask : r.mask ≡ a.mask
  pub same_failed : r.failed ≡ a.failed
  pub not_malformed : malformed_emission (events_of h.batch B) a.mask a.last (emission_of e) ≡ false
  pub last : r.last ≡ lp_id_of e.emitter
  pub remote : r.remote ≡ counted a.remote (emission_of e)
  pub outcome_is : NextResult h L Z (first_tick (events_of h.batch B) (lp_id_of e.emitter) 0) a e r.outcome

-- What is malformed is refused as that.
pub record RefusesMalformed (malformed : Bool) (x : Refusal) : Type 0 where
  pub malformed_holds : malformed ≡ true
  pub refused : x ≡ P.MalformedReply

abbrev pub Checks : Header → ℕ → List ℕ → List ℕ → List ℕ → ReplyCheck → W.Emission → Result ReplyCheck Refusal → Type 0
Checks h L T Z B a e r = MatchResult r (ChecksNext h L T Z B a e) (RefusesMalformed (malformed_emission (events_of h.batch B) a.mask a.last (emission_of e)))

-- A check that goes on comes to what P says of it; one that has stopped is given back as it is.
abbrev pub GoesOn : (ReplyCheck → Result ReplyCheck Refusal → Type 0) → Result ReplyCheck Refusal → Result ReplyCheck Refusal → Type 0
GoesOn P a r = MatchResult a (λ b. P b r) (λ x. r ≡ Err x)

abbrev pub ChecksFrom : Header → ℕ → List ℕ → List ℕ → List ℕ → Result ReplyCheck Refusal → W.Emission → Result ReplyCheck Refusal → Type 0
ChecksFrom h L T Z B a e r = GoesOn (λ b v. Checks h L T Z B b e v) a r

-- What a check of a whole reply asks.
pub record CheckStarted (h : Header) (T Z B : List ℕ) (a : ReplyCheck) : Type 0 where
  pub started : a ≡ start_of a.mask a.failed
  pub checkable : Checkable h T Z B

-- From a on, the emissions xs are checked, and b says how far it came: its verdict is that of their rows, for any edges that have lookaheads above 0 and that look tells of.
pub record CheckedTo (h : Header) (look : ℕ → ℕ → ℕ) (T Z B : List ℕ) (a : ReplyCheck) (xs : List Emission) (b : ReplyCheck) : Type 0 where
  pub same_mask : b.mask ≡ a.mask
  pub same_failed : b.failed ≡ a.failed
  pub not_malformed : any_malformed_emission (events_of h.batch B) a.mask 0 xs ≡ false
  pub last : b.last ≡ last_of 0 xs
  pub remote : b.remote ≡ saturating_add 0 (count is_remote xs)
  pub outcome_is : (X Q W : List ℕ) → any without_lookahead (edges_of h.edges X) ≡ false → Looks (edges_of h.edges X) T look → ChecksRows (rows_up_to (view h X Q Z W) (events_of h.batch B) a.failed xs) b.outcome

abbrev pub Checked : Header → (ℕ → ℕ → ℕ) → List ℕ → List ℕ → List ℕ → ReplyCheck → List Emission → Result ReplyCheck Refusal → Type 0
Checked h look T Z B a xs r = MatchResult r (CheckedTo h look T Z B a xs) (RefusesMalformed (any_malformed_emission (events_of h.batch B) a.mask 0 xs))

abbrev pub CheckedFrom : Header → (ℕ → ℕ → ℕ) → List ℕ → List ℕ → List ℕ → Result ReplyCheck Refusal → List Emission → Result ReplyCheck Refusal → Type 0
CheckedFrom h look T Z B a xs r = GoesOn (λ b v. Checked h look T Z B b xs v) a r
