-- What each return of a rehearsal gives.
use Rattle.std.specs.Prelude.{Ok}
use mathlib.Core.Path.{◌≡◌, refl, sym, ap, ◌∙◌}
use mathlib.Core.List.{List, []}
use Prim.Native.Nat.{ℕ}
use lib.ListN.{length}
use Rattle.words.specs.Words.{zeroes}
use Rattle.rules.specs.State as R
use Rattle.rules.specs.Answers.{Accepted}
use Rattle.rules.specs.Build.{Setup, setup, build}
use Rattle.rules.specs.Foreign.{foreign}
use Rattle.rules.specs.History.{empty_history}
use Rattle.rules.proofs.Demand.{demand_3}
use Rattle.state.specs.declared.Header.{Header}
use Rattle.state.specs.ValidArrays.{ValidArrays}
use Rattle.build_topology.specs.Lookaheads.{lookaheads_for}
use Rattle.build.specs.Checks.{answer_of, ChecksBuild}
use Rattle.build.specs.Initialized.{CanInitialize, Initializes}
use Rattle.build.proofs.AnswerRows.{never}
use Rattle.build.proofs.Numbering.{Built}
use Rattle.build.proofs.Initializing.{can_initialize}
use Rattle.call_list.specs.declared.RunResult.{RunResult}
use Rattle.call_list.specs.declared.RehearsalResult.{RehearsalResult}
use Rattle.call_list.specs.Runs.{RunsCalls}
use Rattle.call_list.specs.Rehearses.{RehearsesAccepted, Rehearses}

-- What was initialized may be lent.
module _ (n L : ℕ) (ss cs ds ws : List ℕ) (t : CanInitialize n L ss cs ds ws (zeroes 3072) (zeroes 256)) (w E Z : List ℕ) (h : Header) (l : Initializes n L ss cs ds ws w E Z h) where
  pub laid_lent : length E ≡ 3072 → length Z ≡ 256 → ValidArrays h E (zeroes 4096) Z (zeroes 512)
  laid_lent e z = record {
    edge_words = e;
    pending_words = refl;
    process_words = z;
    batch_words = refl;
    passes = ap foreign (l.state [] (zeroes 4096) (zeroes 512)) ∙ t.passes;
  }

  pub built_rehearsed : (u : List ℕ) (r : RunResult) (E' Q' Z' B' : List ℕ) → RunsCalls h E (zeroes 4096) Z (zeroes 512) u r E' Q' Z' B'
      → RehearsesAccepted n L ss cs ds ws u (record { answer = Ok tt; state = record { edges = E'; pending = Q'; processes = Z'; batch = B'; head = r.head }; counters = r.counters; calls = r.calls })
  built_rehearsed u r E' Q' Z' B' g = record {
    answered = refl;
    leaves = λ ids.
        let a = setup n L ids ss cs ds (lookaheads_for ds ws) in
        let b = sym (l.state ids (zeroes 4096) (zeroes 512)) in
        record { state = g.state (empty_history a) b refl; counters = g.counters (empty_history a) b refl; calls = g.calls };
  }

module _ (n L : ℕ) (ids ss cs ds ws : List ℕ) (r : Built) (j : ChecksBuild n L ids ss cs ds ws r) where
  abbrev a : Setup
  a = setup n L ids ss cs ds (lookaheads_for ds ws)

  module _ (e : r ≡ Ok tt) where
    accepts : (c : R.Counters) → (build a c).answer ≡ Accepted
    accepts c = sym (j.of_counters c) ∙ ap answer_of e

    pub startable : CanInitialize n L ss cs ds ws (zeroes 3072) (zeroes 256)
    startable = can_initialize n L ids ss cs ds ws R.zeros (zeroes 3072) (accepts R.zeros) refl

    pub rehearsed : (w : List ℕ) (x : RehearsalResult) → RehearsesAccepted n L ss cs ds ws w x → Rehearses a w x
    rehearsed w x g = record {
      answered = λ c. g.answered ∙ sym (accepts c);
      leaves = λ _. g.leaves ids;
      demanded = λ _. demand_3 a R.zeros (accepts R.zeros) _;
      refused = λ why y. never why (sym y ∙ g.answered);
    }
