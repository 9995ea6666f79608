-- A list of messages becomes emissions, one by one.
use Prim.Native.Nat.{ℕ, suc, ◌+◌, ◌-◌, ◌*◌, ◌<◌, ◌≤◌}
use mathlib.Core.Path.{◌≡◌, refl, sym, ap, ◌∙◌}
use mathlib.Core.Bool.{Bool}
use mathlib.Core.List.{List, [], ◌∷◌, ◌++◌, map, map-append}
use native.Mathlib.Omega.{arith}
use native.Mathlib.Nat.{zero-add, sub_self}
use lib.ListN.{length, get_or, take, drop, length-drop}
use lib.Seq.{take-suc, take_all, drop-cons, drop-drop}
use Rattle.types.specs.declared.LpId.{LpId}
use Rattle.types.specs.Value.{lp_id_of}
use Rattle.words.specs.Words.{tab}
use Rattle.words.proofs.Tab.{tab_split}
use Rattle.rules.specs.State.{Message}
use Rattle.rules.specs.HandBack as rules
use Rattle.reply_words.specs.Emissions.{emission_at, emissions_of}
use Rattle.bits.specs.Bits.{value_of}
use Rattle.bits.specs.Bytes.{stream}
use Rattle.bits.proofs.Streams.{length_stream}
use Rattle.plan_file.specs.Format.{counted}
use Rattle.plan_file.specs.Grammar.{message}
use Rattle.plan_file.specs.Standing.{Standing, StandsAt, IsGot}
use Rattle.plan_file.specs.Like.{LikeEmission, Alike}
use Rattle.plan_file.proofs.Reading.{CountParts, count_parts, field_parts}
use Rattle.plan_file.proofs.Messages.{Value, value_got, is_got}
use Rattle.plan_file.proofs.Stands.{first_stands, others_stand}
use Rattle.plan_reader.specs.Written.{emitted, EmissionWritten, CanWrite, EmissionsWritten}
use Rattle.plan_reader.proofs.Emissions.{emissions_stay, front_stays}

-- One more on either side; and one list behind another.
pub alike_append : {A : Type 0} (R : A → A → Type 0) (xs ys us vs : List A) → Alike R xs ys → Alike R us vs → Alike R (xs ++ us) (ys ++ vs)
alike_append R [] [] us vs h g = g
alike_append R [] (y ∷ ys) us vs h g = absurd h
alike_append R (x ∷ xs) [] us vs h g = absurd h
alike_append R (x ∷ xs) (y ∷ ys) us vs h g = (h.0, alike_append R xs ys us vs h.1 g)

-- A counted list: the bits of its count are there, it has so many, and they stand behind the count.
module _ (b : List Bool) (at : ℕ) (ms : List Message) (behind : List Bool) (e : StandsAt (counted 10 message) b at ms behind) where
  abbrev p : CountParts 10 message (drop at b) ms behind
  p = count_parts 10 message (drop at b) ms behind e

  pub count_room : at + 10 ≤ length b
  count_room = let h = rw length-drop at p.room in omega arith

  pub count_is : length ms ≡ value_of (take 10 (drop at b))
  count_is = (field_parts 10 (drop at b) (length ms) _ p.count).value

  pub list_stands : Standing message b (at + 10) ms
  list_stands = record { behind = behind; reads = rw (drop-drop 10 at b) at p.list; inside = count_room }

blank : Message
blank = record { source = 0; destination = 0; tick = 0; payload = [] }

-- Up to emission i they are written, and from the place p on the other messages stand.
pub record Progress (b : List Bool) (at : ℕ) (q : LpId) (w₀ : List ℕ) (from : ℕ) (w : List ℕ) (p i : ℕ) : Type 0 where
  pub lower : from ≤ i
  pub size : length w ≡ length w₀
  pub before : take (8 * from) w ≡ take (8 * from) w₀
  pub stands : (ms : List Message) (behind : List Bool) → StandsAt (counted 10 message) b at ms behind → Standing message b p (drop (i - from) ms)
  pub like : (ms : List Message) (behind : List Bool) → StandsAt (counted 10 message) b at ms behind → Alike LikeEmission (map (emitted (lp_id_of q)) (take (i - from) ms)) (tab (emission_at w) from (i - from))

module _ (b : List Bool) (at : ℕ) (q : LpId) (w₀ : List ℕ) (from : ℕ) where
  pub progress_start : Progress b at q w₀ from w₀ (at + 10) from
  unfolding tab
  progress_start = record {
    lower = omega arith;
    size = refl;
    before = refl;
    stands = λ ms behind e. rw sub_self (list_stands b at ms behind e);
    like = λ ms behind e. rw sub_self tt;
  }

  module _ {w : List ℕ} {p i : ℕ} (g : Progress b at q w₀ from w p i) where
    module _ (ms : List Message) (behind : List Bool) (e : StandsAt (counted 10 message) b at ms behind) (h : i < from + length ms) where
      below : i - from < length ms
      below = omega (arith, g.lower)

      here : Standing message b p (get_or ms (i - from) blank ∷ drop (suc (i - from)) ms)
      here = rw (drop-cons ms (i - from) blank below) at (g.stands ms behind e)

      pub more_here : IsGot (message.get (drop p b))
      more_here = is_got _ _ _ (first_stands here)

      module _ {u : List ℕ} {next : ℕ} (t : EmissionWritten b p q w i u next) where
        next-stands : Standing message b next (drop (i + 1 - from) ms)
        next-stands =
            let n : i + 1 - from ≡ suc (i - from) = omega (arith, g.lower) in
            rw n (others_stand here next (t.ends _ _ (first_stands here)) t.inside)

        next_like : Alike LikeEmission (map (emitted (lp_id_of q)) (take (i + 1 - from) ms)) (tab (emission_at u) from (i + 1 - from))
        unfolding tab
        next_like =
            let n : i + 1 - from ≡ suc (i - from) = omega (arith, g.lower) in
            let m : i + 1 - from ≡ (i - from) + 1 = omega (arith, g.lower) in
            let s : from + (i - from) ≡ i = omega (arith, g.lower) in
            let x : Message = get_or ms (i - from) blank in
            let l : map (emitted (lp_id_of q)) (take (i + 1 - from) ms) ≡ map (emitted (lp_id_of q)) (take (i - from) ms) ++ (emitted (lp_id_of q) x ∷ [])
            = ap (λ (k : ℕ). map (emitted (lp_id_of q)) (take k ms)) n ∙ ap (map (emitted (lp_id_of q))) (take-suc ms (i - from) blank below) ∙ map-append (emitted (lp_id_of q)) (take (i - from) ms) (x ∷ []) in
            let o : tab (emission_at u) from (i + 1 - from) ≡ tab (emission_at w) from (i - from) ++ (emission_at u i ∷ [])
            = ap (tab (emission_at u) from) m ∙ tab_split (emission_at u) from (i - from) 1
            ∙ ap (λ (k : List rules.Emission). k ++ (emission_at u (from + (i - from)) ∷ [])) (emissions_stay (8 * i) u w t.before from (i - from) (omega (arith, g.lower)))
            ∙ ap (λ (k : ℕ). tab (emission_at w) from (i - from) ++ (emission_at u k ∷ [])) s in
            rw (l, o) (alike_append LikeEmission (map (emitted (lp_id_of q)) (take (i - from) ms)) (tab (emission_at w) from (i - from)) (emitted (lp_id_of q) x ∷ []) (emission_at u i ∷ []) (g.like ms behind e) (t.like x _ (first_stands here), tt))

    pub progress_more : (n : ℕ) → n ≡ value_of (take 10 (drop at b)) → i < from + n → {u : List ℕ} {next : ℕ} → EmissionWritten b p q w i u next → Progress b at q w₀ from u next (i + 1)
    progress_more n c h t = record {
      lower = omega (arith, g.lower);
      size = t.size ∙ g.size;
      before = front_stays (8 * i) _ w t.before (8 * from) (omega (arith, g.lower)) ∙ g.before;
      stands = λ ms behind e. next-stands ms behind e (omega (arith, count_is b at ms behind e, c)) t;
      like = λ ms behind e. next_like ms behind e (omega (arith, count_is b at ms behind e, c)) t;
    }

    pub progress_end : (n : ℕ) → n ≡ value_of (take 10 (drop at b)) → i ≡ from + n → EmissionsWritten b at q w₀ from w (from + n)
    progress_end n c h = record {
      count = λ ms behind e. omega (arith, count_is b at ms behind e, c);
      like = λ ms behind e.
          let l : i - from ≡ length ms = omega (arith, count_is b at ms behind e, c) in
          let k : length ms ≤ i - from = omega arith in
          let f : Alike LikeEmission (map (emitted (lp_id_of q)) ms) (tab (emission_at w) from (i - from)) = rw (take_all (i - from) ms k) at (g.like ms behind e) in
          rw l at f;
      before = g.before;
      size = g.size;
    }

-- What a caller's demand gives.
module _ (s : List ℕ) (at from n : ℕ) (c : CanWrite (stream s) at from n) where
  abbrev v : Value ((counted 10 message).get (drop at (stream s)))
  v = value_got _ c.stands

  pub can_read : at + 10 ≤ length s * 8
  can_read = rw length_stream at (count_room (stream s) at v.value v.behind v.is)

  module _ (k : ℕ) (e : k ≡ value_of (take 10 (drop at (stream s)))) where
    length_is : length v.value ≡ k
    length_is = count_is (stream s) at v.value v.behind v.is ∙ sym e

    pub can_hold : 8 * (from + k) ≤ n
    can_hold = rw length_is at (c.room v.value v.behind v.is)

    pub can_go_on : {q : LpId} {w₀ w : List ℕ} {p i : ℕ} → Progress (stream s) at q w₀ from w p i → i < from + k → IsGot (message.get (drop p (stream s)))
    can_go_on {q} {w₀} g h = more_here (stream s) at q w₀ from g v.value v.behind v.is (rw length_is h)

-- What the first emissions were alike, they still are, with those written behind them.
pub emissions_after : (b : List Bool) (at : ℕ) (q : LpId) (w : List ℕ) (from : ℕ) (u : List ℕ) (r : ℕ) → EmissionsWritten b at q w from u r
    → (ms : List Message) (behind : List Bool) → StandsAt (counted 10 message) b at ms behind
    → (xs : List rules.Emission) → Alike LikeEmission xs (emissions_of from w) → Alike LikeEmission (xs ++ map (emitted (lp_id_of q)) ms) (emissions_of r u)
emissions_after b at q w from u r t ms behind e xs h =
    let s : emissions_of r u ≡ emissions_of from w ++ tab (emission_at u) from (length ms)
    = ap (tab (emission_at u) 0) (t.count ms behind e) ∙ tab_split (emission_at u) 0 from (length ms)
    ∙ rw (zero-add, emissions_stay (8 * from) u w t.before 0 from (omega arith)) in
    rw s (alike_append LikeEmission xs (emissions_of from w) (map (emitted (lp_id_of q)) ms) (tab (emission_at u) from (length ms)) h (t.like ms behind e))
