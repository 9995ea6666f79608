-- A call of `runtime` is the call that the words are.
use Rattle.std.specs.Prelude.{Result}
use mathlib.Core.Path.{◌≡◌, sym, subst, ap, ◌∙◌}
use mathlib.Core.List.{List}
use Prim.Native.Nat.{ℕ, ◌+◌, ◌*◌, ◌≤◌, ◌<◌}
use native.Mathlib.Omega.{arith}
use lib.ListN.{length, get_or, drop}
use Rattle.types.specs.declared.SimTime.{SimTime}
use Rattle.types.specs.Value.{ticks_of}
use Rattle.words.specs.Words.{tick_at}
use Rattle.reply_words.specs.Emissions.{emissions_of}
use Rattle.rules.specs.HandBack.{Emission}
use Rattle.rules.specs.Calls.{Call, AddInitial, Begin, Step, HandBack}
use Rattle.state.specs.declared.Runtime.{Runtime}
use Rattle.state.specs.declared.Counters.{Counters}
use Rattle.state.specs.declared.Answer.{Answer}
use Rattle.state.specs.declared.Refusal.{Refusal}
use Rattle.state.specs.declared.Message.{Message}
use Rattle.state.specs.View.{message_of}
use Rattle.runtime.specs.Executes.{Executes}
use Rattle.call_words.specs.Decode.{message_at, hand_back_at, decode, size, call_of}
use Rattle.call_words.proofs.Decoding.{Stands, stands_0, stands_1, stands_2, stands_3}

module _ (w : List ℕ) (at : ℕ) (some : 0 < size (decode w at)) where
  abbrev n : ℕ
  n = get_or w (at + 2) 0

  begins : get_or w at 0 ≡ 1 → Stands w at (Begin (tick_at w (at + 1)) (get_or w (at + 3) 0)) 4
  begins = stands_1 w at some

  pub begin_there : get_or w at 0 ≡ 1 → at + 4 ≤ length w
  begin_there e = (begins e).there

  initial : get_or w at 0 < 2 → (get_or w at 0 ≡ 1 → ⊥) → Stands w at (AddInitial (message_at w (at + 1))) 8
  initial l other = stands_0 w at some (omega (arith, other))

  pub initial_there : get_or w at 0 < 2 → (get_or w at 0 ≡ 1 → ⊥) → at + 8 ≤ length w
  initial_there l other = (initial l other).there

  back : 2 ≤ get_or w at 0 → (get_or w at 0 ≡ 2 → ⊥) → Stands w at (hand_back_at w at n) (3 + 8 * n)
  back above other = stands_3 w at some (λ e. omega arith) (λ e. omega arith) other

  pub back_there : 2 ≤ get_or w at 0 → (get_or w at 0 ≡ 2 → ⊥) → at + (3 + 8 * n) ≤ length w
  back_there above other = (back above other).there

  module _ (s : Runtime) (c : Counters) (a : Result Answer Refusal) (t : Runtime) (d : Counters) where
    abbrev Executed : Call → Type 0
    Executed k = Executes k s c a t d

    pub begin_executed : get_or w at 0 ≡ 1 → (h : SimTime) → ticks_of h ≡ tick_at w (at + 1) → Executed (Begin (ticks_of h) (get_or w (at + 3) 0)) → Executed (call_of (decode w at))
    begin_executed e h i g = subst Executed (ap (λ (x : ℕ). Begin x (get_or w (at + 3) 0)) i ∙ sym (begins e).is) g

    pub initial_executed : get_or w at 0 < 2 → (get_or w at 0 ≡ 1 → ⊥) → (m : Message) → message_of m ≡ message_at w (at + 1) → Executed (AddInitial (message_of m)) → Executed (call_of (decode w at))
    initial_executed l other m i g = subst Executed (ap AddInitial i ∙ sym (initial l other).is) g

    pub step_executed : get_or w at 0 ≡ 2 → Executed Step → Executed (call_of (decode w at))
    step_executed e g = subst Executed (sym (stands_2 w at some e).is) g

    pub back_executed : 2 ≤ get_or w at 0 → (get_or w at 0 ≡ 2 → ⊥) → (xs : List Emission) → xs ≡ emissions_of n (drop (at + 3) w) → Executed (HandBack (get_or w (at + 1) 0) xs) → Executed (call_of (decode w at))
    unfolding hand_back_at
    back_executed above other xs i g = subst Executed (ap (HandBack (get_or w (at + 1) 0)) i ∙ sym (back above other).is) g
