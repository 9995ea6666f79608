-- No call on a state reached from build answers 11 or 33.
use mathlib.Core.Path.{◌≡◌, refl, subst}
use mathlib.Core.Bool.{true, false}
use mathlib.Core.List.{List, [], ◌∷◌}
use Prim.Native.Nat.{ℕ}
use native.Mathlib.Omega.{arith}
use lib.Dec.{ltb, eqb}
use lib.ListN.{get_or}
use borrow.Author.Tests.{eqb-true, eqb-false, ltb-true}
use Rattle.rules.specs.State.{Event, Message, Stored, unset, stored, State, Counters}
use Rattle.rules.specs.Answers.{Refusal, refusal_number, number}
use Rattle.rules.specs.Rows.{Row, Out, refuse}
use Rattle.rules.specs.Pending.{route}
use Rattle.rules.specs.Foreign.{foreign}
use Rattle.rules.specs.Initial.{add_initial}
use Rattle.rules.specs.Begin.{begin}
use Rattle.rules.specs.Step.{step}
use Rattle.rules.specs.HandBack.{Emission, message_rows, emission_rows, process_rows, poison_rows, hand_back_rows, commit, commit_at, poison_with, hand_back}
use Rattle.rules.specs.Calls.{Call, AddInitial, Begin, Step, HandBack, rule}
use Rattle.rules.proofs.Tests.{by_test, not_both}
use Rattle.rules.proofs.Lists.{All}
use Rattle.rules.proofs.Table.{Passed, Firsts, by_firsts, firsts_append}
use Rattle.rules.proofs.Cases.{Plain, by_initial, by_begin, by_step, by_back}
use Rattle.rules.proofs.Shape.{Ahead, Shaped, passes_11}
use Rattle.rules.proofs.Checks.{along, Routed, routed}
use Rattle.rules.proofs.Fair.{InHand}
use Rattle.rules.proofs.Emit.{fine}
use Rattle.rules.proofs.FairCalls.{FairAt}

-- The answer does not have the number k; and neither 11 nor 33.
unfoldable pub Not : ℕ → Out → Type 0
Not k o = number o.answer ≡ k → ⊥

pub record Proper (o : Out) : Type 0 where
  pub no_foreign : Not 11 o
  pub no_straggler : Not 33 o

another : (k : ℕ) (o : Out) → eqb (number o.answer) k ≡ false → Not k o
unfolding Not
another k o e h = eqb-false (number o.answer) k e h

plain : (s : State) (c : Counters) (r : Refusal) → Plain r → Proper (refuse s c r)
unfolding number
plain s c r p = record { no_foreign = another 11 (refuse s c r) p.not_11; no_straggler = another 33 (refuse s c r) p.not_33 }

both : (o : Out) → eqb (number o.answer) 11 ≡ false → eqb (number o.answer) 33 ≡ false → Proper o
both o a b = record { no_foreign = another 11 o a; no_straggler = another 33 o b }

module _ (s : State) (c : Counters) (w : Shaped s) where
  never {κ} : {C : Type κ} → foreign s ≡ true → C
  never f = not_both f (passes_11 s w)

  proper_initial : (m : Message) → Proper (add_initial s c m)
  unfolding number
  proper_initial m = by_initial s c m Proper (record { foreign = never; refused = plain s c; accept = λ _. both _ refl refl })

  proper_begin : (h b : ℕ) → Proper (begin s c h b)
  unfolding number
  proper_begin h b = by_begin s c h b Proper (record { foreign = never; refused = plain s c; accept = λ _. both _ refl refl })

  proper_step : Proper (step s c)
  unfolding number refusal_number
  proper_step = by_step s c Proper (record {
    foreign = never;
    refused = plain s c;
    batch = λ _ _ _ _. both _ refl refl;
    spends = λ _ _ _. both _ refl refl;
    rise = λ _ _ _ _. both _ refl refl;
    finish = λ _ _ _ _ _. both _ refl refl;
    last_branch = λ _ _ _ _ _. both _ refl refl;
  })

  back_no_foreign : (mask : ℕ) (xs : List Emission) → Not 11 (hand_back s c mask xs)
  unfolding number refusal_number
  back_no_foreign mask xs = by_back s c mask xs (Not 11) (record {
    foreign = never;
    poisoned = λ _. another 11 _ refl;
    empty = λ _. another 11 _ refl;
    malformed = another 11 _ refl;
    lost = λ _ r l. another 11 (poison_with s c r) l.not_11;
    no_horizon = λ _ _. another 11 _ refl;
    spends = λ _ _ _. another 11 _ refl;
    commits = λ _ _ _. another 11 _ refl;
  })

-- 33: behind 28 to 32 of an emission, its straggler row never decides.
module _ (s : State) (g : List Event) (ahead : All Ahead s.edges) (i : FairAt g s) where
  Mild : Refusal → Type 0
  Mild r = eqb (refusal_number r) 33 ≡ false

  in_time : (b : Event) (x : Emission) → InHand s.horizons g b → x.emitter ≡ b.destination → Passed (message_rows s.n (route s.edges) (along s x.emitter x.message) x.emitter b.tick x.message) → ltb x.message.tick (get_or s.horizons x.message.destination 0) ≡ true → ⊥
  in_time b x h e p t =
      let r : Routed s b.destination b.tick x.message = subst (λ (a : ℕ). Routed s a b.tick x.message) e (routed s x.emitter b.tick x.message p) in
      let f = fine s g b x.message ahead i.reach i.capped i.under h r in
      omega (arith, f.floor, ltb-true x.message.tick (get_or s.horizons x.message.destination 0) t)

  mild_emissions : (b : Event) → InHand s.horizons g b → (xs : List Emission) → Firsts Mild (emission_rows s b xs)
  unfolding emission_rows Mild refusal_number
  mild_emissions b h [] = tt
  mild_emissions b h (x ∷ xs) =
      by_test (Firsts Mild)
      (λ e. (
        (λ _. refl),
        λ p. (
          (λ _. refl),
          λ q. (
            (λ _. refl),
            λ u. (
              (λ _. refl),
              λ v. (
                (λ _. refl),
                λ w.
                    ((λ t. absurd (in_time b x h (eqb-true x.emitter b.destination e) (p, (q, (u, (v, (w, tt))))) t)), λ _. mild_emissions b h xs),
              ),
            ),
          ),
        ),
      ))
      (λ _. mild_emissions b h xs)

  mild_processes : (mask : ℕ) (xs : List Emission) (bs : List Event) → All (InHand s.horizons g) bs → Firsts Mild (process_rows s mask xs bs)
  unfolding process_rows Mild refusal_number
  mild_processes mask xs [] h = tt
  mild_processes mask xs (b ∷ bs) h = ((λ _. refl), λ _. firsts_append Mild (emission_rows s b xs) (process_rows s mask xs bs) (mild_emissions b h.0 xs) (λ _. mild_processes mask xs bs h.1))

  mild_rows : (mask : ℕ) (xs : List Emission) → Firsts Mild (poison_rows s mask xs)
  unfolding Mild refusal_number
  mild_rows mask xs = firsts_append Mild (process_rows s mask xs s.batch) _ (mild_processes mask xs s.batch i.held) (λ _. ((λ _. refl), λ _. ((λ _. refl), λ _. tt)))

  mild_lost : (c : Counters) (rs : List Row) → Firsts Mild rs → Firsts (λ r. Not 33 (poison_with s c r)) rs
  unfolding Mild number
  mild_lost c [] f = tt
  mild_lost c (r ∷ rs) f = ((λ t. another 33 (poison_with s c r.refusal) (f.0 t)), λ e. mild_lost c rs (f.1 e))

  commit_mild : (c : Counters) (xs : List Emission) (l : Stored) → Not 33 (commit_at s c l xs)
  unfolding commit_at commit number refusal_number
  commit_mild c xs unset = another 33 _ refl
  commit_mild c xs (stored h b) = by_test (Not 33) (λ _. another 33 _ refl) (λ _. another 33 _ refl)

  pub back_no_straggler : (c : Counters) (mask : ℕ) (xs : List Emission) → Not 33 (hand_back s c mask xs)
  unfolding hand_back number refusal_number
  back_no_straggler c mask xs =
      by_firsts (Not 33) (hand_back_rows s mask xs) _ _
      ((λ _. another 33 _ refl), λ _. ((λ _. another 33 _ refl), λ _. ((λ _. another 33 _ refl), λ _. ((λ _. another 33 _ refl), λ _. tt))))
      (λ _. by_firsts (Not 33) (poison_rows s mask xs) _ _ (mild_lost c (poison_rows s mask xs) (mild_rows mask xs)) (λ _. commit_mild c xs s.stored))

pub proper : (s : State) (c : Counters) (g : List Event) (k : Call) → Shaped s → FairAt g s → Proper (rule s c k)
unfolding rule
proper s c g (AddInitial m) w i = proper_initial s c w m
proper s c g (Begin h b) w i = proper_begin s c w h b
proper s c g Step w i = proper_step s c w
proper s c g (HandBack mask xs) w i = record { no_foreign = back_no_foreign s c w mask xs; no_straggler = back_no_straggler s g w.wired.ahead i c mask xs }
