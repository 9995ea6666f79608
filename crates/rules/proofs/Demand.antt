-- Demand 3 of the rules: for every list of calls, from every build that is not refused.
use mathlib.Core.Path.{◌≡◌, refl, sym, ap, ◌∙◌}
use mathlib.Core.Bool.{false, true≢false}
use mathlib.Core.List.{List, [], ◌∷◌}
use Prim.Native.Nat.{ℕ, suc, ◌<◌}
use native.Mathlib.Omega.{arith}
use lib.ListN.{length}
use Rattle.rules.specs.Base.{if◌then◌otherwise◌, up_to, count}
use Rattle.rules.specs.State.{State, Counters}
use Rattle.rules.specs.Answers.{Reading, Pending, Counted, Read, Accepted}
use Rattle.rules.specs.Rows.{unless, Out}
use Rattle.rules.specs.Build.{Setup, built, build}
use Rattle.rules.specs.Foreign.{foreign}
use Rattle.rules.specs.Refresh.{refreshed}
use Rattle.rules.specs.Reads.{read, read_gvt, read_counters, read_pending, read_earliest}
use Rattle.rules.specs.Calls.{Call, AddInitial, Begin, Step, HandBack, rule}
use Rattle.rules.specs.History
use Rattle.rules.specs.History.{History, empty_history, append_call, run_calls, L, E, initials, in_hand, emitted, remote, rounds, null_message_count, worker_count_of, used}
use Rattle.rules.specs.Demand.{Never, Demanded}
use Rattle.rules.proofs.Lists.{All, all_map}
use Rattle.rules.proofs.Cases.{by_initial, by_begin, by_step, by_back}
use Rattle.rules.proofs.Shape.{Shaped, passes_11}
use Rattle.rules.proofs.ShapeCalls.{Shapes, shape_kept}
use Rattle.rules.proofs.Tally.{Tallied, Tells}
use Rattle.rules.proofs.TallyCalls.{tells}
use Rattle.rules.proofs.Fronts.{length_edges}
use Rattle.rules.proofs.Pace.{Paced, AtLookahead, paced_built, few_null_messages, few_rounds}
use Rattle.rules.proofs.PaceCalls.{pace_kept}
use Rattle.rules.proofs.Fair.{Reach, Capped}
use Rattle.rules.proofs.FairCalls.{FairIn, fair_kept}
use Rattle.rules.proofs.Handed.{given}
use Rattle.rules.proofs.Numbers.{Not, proper}
use Rattle.rules.proofs.Built.{Makes, makes, noughts, noughts_at}
use Rattle.rules.proofs.Sequence.{in_order}

-- Lookahead and number of edges stay what build made of them.
pub record Fixed (look k : ℕ) (s : State) : Type 0 where
  pub lookahead : s.lookahead ≡ look
  pub edges : length s.edges ≡ k

unfoldable Fixes : ℕ → ℕ → Out → Type 0
Fixes look k o = Fixed look k o.after

fixed_kept : (look k : ℕ) (s : State) (c : Counters) (call : Call) → Fixed look k s → Fixes look k (rule s c call)
unfolding rule Fixes refreshed
fixed_kept look k s c (AddInitial m) i = by_initial s c m (λ o. Fixes look k o) (record { foreign = λ _. i; refused = λ _ _. i; accept = λ _. record { lookahead = i.lookahead; edges = i.edges } })
fixed_kept look k s c (Begin h b) i = by_begin s c h b (λ o. Fixes look k o) (record { foreign = λ _. i; refused = λ _ _. i; accept = λ _. record { lookahead = i.lookahead; edges = i.edges } })
fixed_kept look k s c Step i = by_step s c (λ o. Fixes look k o) (record {
  foreign = λ _. i;
  refused = λ _ _. i;
  batch = λ _ _ _ _. record { lookahead = i.lookahead; edges = i.edges };
  spends = λ _ _ _. record { lookahead = i.lookahead; edges = i.edges };
  rise = λ h _ _ _. record { lookahead = i.lookahead; edges = length_edges s (suc h) s.edges ∙ i.edges };
  finish = λ h _ _ _ _. record { lookahead = i.lookahead; edges = length_edges s (suc h) s.edges ∙ i.edges };
  last_branch = λ h _ _ _ _. record { lookahead = i.lookahead; edges = length_edges s (suc h) s.edges ∙ i.edges };
})
fixed_kept look k s c (HandBack mask xs) i = by_back s c mask xs (λ o. Fixes look k o) (record {
  foreign = λ _. i;
  poisoned = λ _. i;
  empty = λ _. i;
  malformed = i;
  lost = λ _ _ _. record { lookahead = i.lookahead; edges = i.edges };
  no_horizon = λ _ _. i;
  spends = λ _ _ _. record { lookahead = i.lookahead; edges = i.edges };
  commits = λ _ _ _. record { lookahead = i.lookahead; edges = i.edges };
})

-- All that is kept.
pub record Sound (a : Setup) (y : History) : Type 0 where
  pub shaped : Shaped y.now
  pub tallied : Tallied y
  pub paced : Paced (L a) y
  pub fair : FairIn y
  pub fixed : Fixed a.lookahead (E a) y.now
  pub least : 0 < L a
  pub no_foreign : Never 11 y.entries
  pub no_straggler : Never 33 y.entries

sound_on : (a : Setup) (y : History) (k : Call) → Sound a y → Sound a (append_call y k (rule y.now y.counters k))
unfolding Shapes Tells Fixes Not FairIn
sound_on a y k i =
    let p = proper y.now y.counters (given y.entries) k i.shaped i.fair in
    record {
      shaped = shape_kept y.now y.counters k i.shaped;
      tallied = tells y i.shaped i.tallied k;
      paced = pace_kept (L a) y k i.shaped i.tallied.kept.hand i.paced;
      fair = fair_kept y k i.shaped i.fair;
      fixed = fixed_kept a.lookahead (E a) y.now y.counters k i.fixed;
      least = i.least;
      no_foreign = (p.no_foreign, i.no_foreign);
      no_straggler = (p.no_straggler, i.no_straggler);
    }

pub sound : (a : Setup) (y : History) (ks : List Call) → Sound a y → Sound a (run_calls y ks)
unfolding run_calls
sound a y [] i = i
sound a y (k ∷ ks) i = sound a (append_call y k (rule y.now y.counters k)) ks (sound_on a y k i)

-- What build makes.
fair_built : (a : Setup) → All AtLookahead (built a).edges → FairIn (empty_history a)
unfolding FairIn given built up_to
fair_built a b =
    let hs = noughts 0 a.n in
    record {
      order = tt;
      above = tt;
      floor = tt;
      held = tt;
      reach = all_map AtLookahead (Reach hs) (λ e x. omega arith) (built a).edges b;
      capped = all_map AtLookahead (Capped hs) (λ e x. omega (arith, noughts_at 0 a.n e.destination)) (built a).edges b;
      under = tt;
      fresh = λ _. (refl, noughts_at 0 a.n);
      opened = λ e. absurd (true≢false (sym e));
    }

tallied_built : (a : Setup) → Tallied (empty_history a)
unfolding built count in_hand initials emitted History.handled remote rounds null_message_count worker_count_of used
tallied_built a = record {
  kept = record { hand = refl; lost = λ _. refl; sum = λ _. refl; used = omega arith };
  counted = record { handled = omega arith; emitted = omega arith; remote = omega arith; rounds = omega arith; null_messages = omega arith; worker_count = refl };
}

pub sound_built : (a : Setup) (c : Counters) → (build a c).answer ≡ Accepted → Sound a (empty_history a)
sound_built a c e =
    let m = makes a c e in
    record {
      shaped = m.shaped;
      tallied = tallied_built a;
      paced = paced_fresh a m;
      fair = fair_built a m.bounds;
      fixed = fixed_built a m;
      least = m.least;
      no_foreign = tt;
      no_straggler = tt;
    }
  where
    paced_fresh : (a : Setup) → Makes a → Paced (L a) (empty_history a)
    paced_fresh a m = unfold built in paced_built (L a) (built a) _ refl m.bounds m.looks

    fixed_built : (a : Setup) → Makes a → Fixed a.lookahead (E a) (built a)
    fixed_built a m = record { lookahead = unfold built in refl; edges = m.edges }

-- Reads of a state that 11 lets pass.
read_answers : (s : State) (c : Counters) (r : Reading) → foreign s ≡ false → (read s c r).answer ≡ Read r
unfolding read unless if◌then◌otherwise◌
read_answers s c r f = rw f

pub demanded : (a : Setup) (y : History) → Sound a y → Demanded a y
unfolding read_gvt read_pending read_counters read_earliest
demanded a y i =
    let es = y.entries in
    let f = passes_11 y.now i.shaped in
    let k = i.tallied.counted in
    record {
      order = λ p. in_order p es (unfold FairIn in i.fair.order);
      conserved = λ h. omega (arith, i.tallied.kept.sum h, ap length i.tallied.kept.hand);
      pending = read_answers y.now y.counters (Pending (length y.now.pending)) f;
      few_rounds = few_rounds (L a) y i.least i.paced;
      few_null_messages = rw i.fixed.edges at (few_null_messages (L a) y i.least i.paced);
      counters = read_answers y.now y.counters (Counted y.counters y.now.used) f
          ∙ (λ t. Read (Counted (record { handled = k.handled t; emitted = k.emitted t; remote = k.remote t; rounds = k.rounds t; null_messages = k.null_messages t; worker_count = k.worker_count t }) (i.tallied.kept.used t)));
      gvt = read_answers y.now y.counters _ f;
      earliest = read_answers y.now y.counters _ f;
      no_foreign = i.no_foreign;
      no_straggler = i.no_straggler;
    }

-- The theorem.
pub demand_3 : (a : Setup) (c : Counters) → (build a c).answer ≡ Accepted → (ks : List Call) → Demanded a (run_calls (empty_history a) ks)
demand_3 a c e ks = demanded a (run_calls (empty_history a) ks) (sound a (empty_history a) ks (sound_built a c e))
