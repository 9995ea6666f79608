-- What the host does after a step and after a hand back, told by the batch in hand, the run that is open, and the answer's number.
use mathlib.Core.Path.{◌≡◌, refl, sym, ap, ◌∙◌}
use mathlib.Core.Bool.{true, false, ◌||◌}
use mathlib.Core.List.{List, [], ◌∷◌}
use Prim.Native.Nat.{ℕ, ◌<◌}
use native.Mathlib.Omega.{arith}
use lib.Dec.{eqb}
use borrow.Author.Tests.{ne_eqb}
use Rattle.rules.specs.Base.{if◌then◌otherwise◌, none, some, non_empty}
use Rattle.rules.specs.State.{Event, State, Counters}
use Rattle.rules.specs.Answers.{Batch, Advanced, Finished, Committed, Refused, Refusal, refusal_number, number}
use Rattle.rules.specs.Rows.{Out, out}
use Rattle.rules.specs.Refresh.{refreshed}
use Rattle.rules.specs.Foreign.{foreign}
use Rattle.rules.specs.Step.{step}
use Rattle.rules.specs.HandBack.{Emission, hand_back}
use Rattle.rules.specs.Calls.{Step, HandBack}
use Rattle.rules.specs.History.{Entry, is_hand_back, is_committed, is_batch, events, in_hand, commits}
use Rattle.rules.proofs.Cases.{by_step, by_back}
use Rattle.rules.proofs.Counts.{entry_of}
use Rattle.plan_file.specs.Plan.{Plan}
use Rattle.plan_rules.specs.Host.{due, left, after, next}
use Rattle.plan_rules.proofs.RefusalNumbers.{numbered}

pub true_not_false : {C : Type 0} → true ≡ false → C
true_not_false e = let z : ◌≡◌ {A = ℕ} 0 1 = cc in absurd (omega arith)

-- What follows a step that gave o, in a run that has made the calls es so far.
pub record AfterStep (p : Plan) (es : List Entry) (r : ℕ) (o : Out) : Type 0 where
  pub hands : non_empty o.after.batch ≡ true → (next p (entry_of Step o.answer r ∷ es) ≡ some (HandBack 0 (due (left p es) o.after.batch))) × (in_hand (entry_of Step o.answer r ∷ es) ≡ o.after.batch)
  pub goes : non_empty o.after.batch ≡ false → number o.answer ≡ 0 → o.after.running ≡ true → next p (entry_of Step o.answer r ∷ es) ≡ some Step
  pub stops : non_empty o.after.batch ≡ false → (0 < number o.answer) → next p (entry_of Step o.answer r ∷ es) ≡ none
  pub closes : non_empty o.after.batch ≡ false → o.after.running ≡ false → next p (entry_of Step o.answer r ∷ es) ≡ none

module _ (p : Plan) (es : List Entry) (r : ℕ) where
  refused_step : (why : Refusal) (t : State) (c : Counters) → t.batch ≡ [] → AfterStep p es r (out (Refused why) t c)
  unfolding next after number non_empty
  refused_step why t c e = record {
    hands = λ b. true_not_false (sym b ∙ ap non_empty e);
    goes = λ b n _. absurd (omega (arith, (numbered why).positive));
    stops = λ _ _. refl;
    closes = λ _ _. refl;
  }

  batch_step : (bs : List Event) (g : ℕ) (t : State) (c : Counters) → non_empty bs ≡ true → t.batch ≡ bs → AfterStep p es r (out (Batch bs g) t c)
  unfolding next after left if◌then◌otherwise◌ is_hand_back in_hand is_batch events
  batch_step bs g t c b e = record {
    hands = λ _. (ap (λ (l : List Event). some (HandBack 0 (due (left p es) l))) (sym e), sym e);
    goes = λ f _ _. true_not_false (sym b ∙ ap non_empty (sym e) ∙ f);
    stops = λ f _. true_not_false (sym b ∙ ap non_empty (sym e) ∙ f);
    closes = λ f _. true_not_false (sym b ∙ ap non_empty (sym e) ∙ f);
  }

  advanced_step : (g : ℕ) (t : State) (c : Counters) → t.batch ≡ [] → t.running ≡ true → AfterStep p es r (out (Advanced g) t c)
  unfolding next after number non_empty
  advanced_step g t c e u = record {
    hands = λ b. true_not_false (sym b ∙ ap non_empty e);
    goes = λ _ _ _. refl;
    stops = λ _ l. absurd (omega arith);
    closes = λ _ f. true_not_false (sym u ∙ f);
  }

  finished_step : (g : ℕ) (t : State) (c : Counters) → t.batch ≡ [] → t.running ≡ false → AfterStep p es r (out (Finished g) t c)
  unfolding next after number non_empty
  finished_step g t c e u = record {
    hands = λ b. true_not_false (sym b ∙ ap non_empty e);
    goes = λ _ _ f. true_not_false (sym f ∙ u);
    stops = λ _ _. refl;
    closes = λ _ _. refl;
  }

  pub after_step : (s : State) (c : Counters) → foreign s ≡ false → s.batch ≡ [] → AfterStep p es r (step s c)
  unfolding refreshed
  after_step s c f e =
      by_step s c (AfterStep p es r)
      (record {
        foreign = λ t. true_not_false (sym t ∙ f);
        refused = λ why _. refused_step why s c e;
        batch = λ h b i t. batch_step _ _ _ c t refl;
        spends = λ h b i. refused_step _ _ c e;
        rise = λ h b i t. advanced_step _ _ _ e i.steps.open_run;
        finish = λ h b i t u. finished_step _ _ c e refl;
        last_branch = λ h b i t u. refused_step _ _ c refl;
      })

-- What follows a hand back that gave o: it commits exactly where its number is 0 or 24.
pub record AfterHandBack (p : Plan) (es : List Entry) (mask : ℕ) (xs : List Emission) (r : ℕ) (o : Out) : Type 0 where
  pub goes : number o.answer ≡ 0 → (next p (entry_of (HandBack mask xs) o.answer r ∷ es) ≡ some Step) × (o.after.running ≡ true)
  pub stops : 0 < number o.answer → next p (entry_of (HandBack mask xs) o.answer r ∷ es) ≡ none
  pub commits : commits (entry_of (HandBack mask xs) o.answer r) ≡ eqb (number o.answer) 0 || eqb (number o.answer) 24

module _ (p : Plan) (es : List Entry) (mask : ℕ) (xs : List Emission) (r : ℕ) where
  not_zero : (n : ℕ) → 0 < n → eqb n 0 ≡ false
  not_zero n l = ne_eqb n 0 (λ e. omega arith)

  refused_back : (why : Refusal) (t : State) (c : Counters) → AfterHandBack p es mask xs r (out (Refused why) t c)
  unfolding next after number is_hand_back is_committed
  refused_back why t c = record {
    goes = λ n. absurd (omega (arith, (numbered why).positive));
    stops = λ _. refl;
    commits = rw (not_zero (refusal_number why) (numbered why).positive);
  }

  committed_back : (g : ℕ) (t : State) (c : Counters) → t.running ≡ true → AfterHandBack p es mask xs r (out (Committed g) t c)
  unfolding next after number is_hand_back is_committed
  committed_back g t c u = record { goes = λ _. (refl, u); stops = λ l. absurd (omega arith); commits = refl }

  pub after_hand_back : (s : State) (c : Counters) → s.running ≡ true → AfterHandBack p es mask xs r (hand_back s c mask xs)
  unfolding refreshed
  after_hand_back s c u =
      by_back s c mask xs (AfterHandBack p es mask xs r)
      (record {
        foreign = λ _. refused_back _ s c;
        poisoned = λ _. refused_back _ s c;
        empty = λ _. refused_back _ s c;
        malformed = refused_back _ s c;
        lost = λ _ why _. refused_back why _ c;
        no_horizon = λ _ _. refused_back _ s c;
        spends = λ h b i. refused_back _ _ _;
        commits = λ h b i. committed_back _ _ _ u;
      })
