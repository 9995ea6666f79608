-- One call more, as a core gave it, along a plan's run.
use mathlib.Core.Path.{◌≡◌, refl, sym, ap, ◌∙◌}
use mathlib.Core.Bool.{false}
use mathlib.Core.List.{List, [], ◌∷◌}
use Prim.Native.Nat.{ℕ, suc, ◌+◌, ◌≤◌, ◌<◌}
use native.Mathlib.Omega.{arith}
use lib.ListN.{length}
use Rattle.rules.specs.Base.{some, non_empty}
use Rattle.rules.specs.State as R
use Rattle.rules.specs.State.{Event}
use Rattle.rules.specs.Rows.{Out, out}
use Rattle.rules.specs.Calls.{Call, rule}
use Rattle.rules.specs.History.{Entry, History, append_call, entry}
use Rattle.records.specs.Records.{events_of}
use Rattle.state.specs.declared.Header.{Header}
use Rattle.state.specs.declared.Counters.{Counters}
use Rattle.state.specs.declared.CoreResult.{CoreResult}
use Rattle.state.specs.View.{view, counters_of, answer_of}
use Rattle.state.specs.Numbers.{number_of}
use Rattle.state.proofs.LeftLent.{left_lent}
use Rattle.state.proofs.Numbering.{numbered}
use Rattle.plan_file.specs.Plan.{Plan}
use Rattle.plan_rules.specs.Host.{next}
use Rattle.plan_rules.specs.Run.{run, enough}
use Rattle.plan_rules.specs.Listing.{last_number}
use Rattle.plan_rules.proofs.Ends.{ends}
use Rattle.plan_rules.proofs.Loop.{run_next}
use Rattle.plan_round.specs.Reached.{Reached}

-- One call of the host, as a core gave it.
module _ (p : Plan) (k : ℕ) (h : Header) (c : Counters) (E Q Z B : List ℕ) (i : Reached p k h c E Q Z B) (call : Call) (n : next p (run p k).entries ≡ some call) (r : CoreResult) (E' Q' Z' B' : List ℕ)
    (g : out (answer_of (events_of r.head.batch B') r.answer) (view r.head E' Q' Z' B') (counters_of r.counters) ≡ rule (view h E Q Z B) (counters_of c) call) where
  abbrev given : Out
  given = rule (view h E Q Z B) (counters_of c) call

  onward : run p (k + 1) ≡ append_call (run p k) call given
  onward =
      let z : k + 1 ≡ suc k = omega arith in
      ap (run p) z ∙ run_next p k call n ∙ (λ j. append_call (run p k) call (rule (i.state j) (i.counters j) call))

  pub reached_next : length E' ≡ length E → length Q' ≡ length Q → length Z' ≡ length Z → length B' ≡ length B → Reached p (k + 1) r.head r.counters E' Q' Z' B'
  reached_next e q z b = record {
    accepted = i.accepted;
    state = ap (λ (y : History). y.now) onward ∙ ap (λ (o : Out). o.after) (sym g);
    counters = ap (λ (y : History). y.counters) onward ∙ ap (λ (o : Out). o.counters) (sym g);
    lent = left_lent call h c E Q Z B r E' Q' Z' B' _ i.lent e q z b g;
  }

  abbrev last : Entry
  last = entry (run p k).now call given

  pub entries_next : (run p (k + 1)).entries ≡ last ∷ (run p k).entries
  entries_next = ap (λ (y : History). y.entries) onward

  pub number_next : (m : ℕ) → m ≡ number_of r.answer → m ≡ last_number (run p (k + 1)).entries
  unfolding last_number
  number_next m e = e ∙ numbered (events_of r.head.batch B') r.answer given.answer (ap (λ (o : Out). o.answer) g) ∙ sym (ap last_number entries_next)

pub empty_none : non_empty {A = Event} [] ≡ false
unfolding non_empty
empty_none = refl

-- Few calls were made as long as there is a next one.
pub few_calls : (p : Plan) (k : ℕ) (h : Header) (c : Counters) (E Q Z B : List ℕ) → Reached p k h c E Q Z B → (call : Call) → next p (run p k).entries ≡ some call → enough p ≤ 4294967295 → k < 4294967295
few_calls p k h c E Q Z B i call n f = omega (arith, (ends p R.zeros i.accepted).short k call n)
