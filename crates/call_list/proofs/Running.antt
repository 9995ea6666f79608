-- A run through the words: what the calls still ahead make of the state at hand is what all calls make of the state given.
use mathlib.Core.Path.{◌≡◌, refl, sym, ap, ◌∙◌}
use mathlib.Core.List.{List, [], ◌∷◌}
use Prim.Native.Nat.{ℕ, zero, suc, ◌+◌, ◌-◌, ◌≤◌, ◌<◌}
use native.Mathlib.Omega.{arith}
use lib.ListN.{length}
use Rattle.rules.specs.State as R
use Rattle.rules.specs.State.{State}
use Rattle.rules.specs.Rows.{Out}
use Rattle.rules.specs.Calls.{Call, rule}
use Rattle.rules.specs.History.{History, append_call, run_calls}
use Rattle.state.specs.declared.Header.{Header}
use Rattle.state.specs.declared.Counters.{Counters}
use Rattle.state.specs.declared.CoreResult.{CoreResult}
use Rattle.state.specs.View.{view, counters_of, zero_counters}
use Rattle.state.specs.ValidArrays.{ValidArrays}
use Rattle.state.proofs.LeftLent.{left_lent}
use Rattle.call_words.specs.Decode.{Decoded, Nothing, Decodes, decode, size, call_of, call_then_rest, decode_from, decode_all}
use Rattle.call_words.proofs.Decoding.{sound}
use Rattle.call_list.specs.Executes.{Executes}
use Rattle.call_list.specs.Runs.{RunsCalls}

-- The state and the counters that a list of calls leaves.
pub record Left : Type 0 where
  pub state : State
  pub counters : R.Counters

abbrev only : State → R.Counters → Left
only s c = record { state = s; counters = c }

abbrev left_by : History → Left
left_by y = only y.now y.counters

unfoldable pub left : State → R.Counters → List Call → Left
left s c [] = only s c
left s c (k ∷ ks) = let o = rule s c k in left o.after o.counters ks

left_none : (s : State) (c : R.Counters) → left s c [] ≡ only s c
unfolding left
left_none s c = refl

-- They are those of the history.
run_leaves : (y : History) (ks : List Call) → left y.now y.counters ks ≡ left_by (run_calls y ks)
unfolding left run_calls
run_leaves y [] = refl
run_leaves y (k ∷ ks) = run_leaves (append_call y k (rule y.now y.counters k)) ks

ended : (m : ℕ) (w : List ℕ) (at : ℕ) → decode w at ≡ Nothing → decode_from m w at ≡ []
unfolding decode_from call_then_rest
ended zero w at e = refl
ended (suc m) w at e = rw e

further : (m : ℕ) (w : List ℕ) (at : ℕ) (k : Call) (n : ℕ) → decode w at ≡ Decodes k n → decode_from (suc m) w at ≡ k ∷ decode_from m w (at + n)
unfolding decode_from call_then_rest
further m w at k n e = rw e

-- Where something is decoded, it is a call and how many words that takes.
some : (d : Decoded) → 0 < size d → d ≡ Decodes (call_of d) (size d)
some Nothing l = absurd (omega arith)
some (Decodes k n) l = refl

module _ (h₀ : Header) (E₀ Q₀ Z₀ B₀ w : List ℕ) where
  abbrev ahead : ℕ → ℕ → List Call
  ahead calls at = decode_from (length w - calls) w at

  pub record Running (calls at : ℕ) (h : Header) (c : Counters) (E Q Z B : List ℕ) : Type 0 where
    pub each_some : calls ≤ at
    pub inside : at ≤ length w
    pub lent : ValidArrays h E Q Z B
    pub same : left (view h₀ E₀ Q₀ Z₀ B₀) (counters_of zero_counters) (decode_all w) ≡ left (view h E Q Z B) (counters_of c) (ahead calls at)
    pub counted : length (decode_all w) ≡ calls + length (ahead calls at)

  pub running_start : (c : Counters) → c ≡ zero_counters → ValidArrays h₀ E₀ Q₀ Z₀ B₀ → Running 0 0 h₀ c E₀ Q₀ Z₀ B₀
  unfolding decode_all
  running_start c n l = let e : length w - 0 ≡ length w = omega arith in record {
    each_some = omega arith;
    inside = omega arith;
    lent = l;
    same = rw (e, n);
    counted = rw e (omega arith);
  }

  module _ (calls at : ℕ) (h : Header) (c : Counters) (E Q Z B : List ℕ) (i : Running calls at h c E Q Z B) where
    pub running_end : size (decode w at) ≡ 0 → RunsCalls h₀ E₀ Q₀ Z₀ B₀ w (record { head = h; counters = c; calls = calls }) E Q Z B
    running_end z = record {
      state = λ y n m. ap (λ (x : Left). x.state) (leaves y n m);
      counters = λ y n m. ap (λ (x : Left). x.counters) (leaves y n m);
      calls = let l : length (ahead calls at) ≡ 0 = ap length nothing_left in omega (arith, i.counted);
      lent = i.lent;
    }
      where
        nothing_left : ahead calls at ≡ []
        nothing_left = ended (length w - calls) w at ((sound w at).none z)

        leaves : (y : History) → y.now ≡ view h₀ E₀ Q₀ Z₀ B₀ → y.counters ≡ counters_of zero_counters → left_by (run_calls y (decode_all w)) ≡ only (view h E Q Z B) (counters_of c)
        leaves y n m = sym (run_leaves y (decode_all w)) ∙ (λ j. left (n j) (m j) (decode_all w)) ∙ i.same ∙ ap (left (view h E Q Z B) (counters_of c)) nothing_left ∙ left_none (view h E Q Z B) (counters_of c)

    module _ (count : ℕ) (l : (0 < count) × (count ≡ size (decode w at))) where
      pub behind : at + count ≤ length w
      behind = omega (arith, l.0, l.1, (sound w at).there (omega (arith, l.0, l.1)))

      decoded : decode w at ≡ Decodes (call_of (decode w at)) count
      decoded = some (decode w at) (omega (arith, l.0, l.1)) ∙ ap (Decodes (call_of (decode w at))) (sym l.1)

      next : ahead calls at ≡ call_of (decode w at) ∷ ahead (calls + 1) (at + count)
      next =
          let s : length w - calls ≡ suc (length w - (calls + 1)) = omega (arith, behind, i.each_some, l.0) in
          ap (λ m. decode_from m w at) s ∙ further (length w - (calls + 1)) w at (call_of (decode w at)) count decoded

      pub running_more : (r : CoreResult) (E' Q' Z' B' : List ℕ) → length E' ≡ length E → length Q' ≡ length Q → length Z' ≡ length Z → length B' ≡ length B → Executes (call_of (decode w at)) h c E Q Z B r E' Q' Z' B'
          → Running (calls + 1) (at + count) r.head r.counters E' Q' Z' B'
      unfolding left
      running_more r E' Q' Z' B' e q z b g = record {
        each_some = omega (arith, i.each_some, l.0);
        inside = behind;
        lent = left_lent (call_of (decode w at)) h c E Q Z B r E' Q' Z' B' _ i.lent e q z b g.gives;
        same = i.same ∙ ap (left (view h E Q Z B) (counters_of c)) next ∙ ap (λ (o : Out). left o.after o.counters (ahead (calls + 1) (at + count))) (sym g.gives);
        counted = let x : length (ahead calls at) ≡ suc (length (ahead (calls + 1) (at + count))) = ap length next in omega (arith, i.counted);
      }
