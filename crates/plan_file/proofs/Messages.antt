-- An edge, a message and a reply, each field where it stands.
use Prim.Native.Nat.{ℕ, zero, suc, ◌+◌, ◌-◌, ◌*◌, ◌<◌, ◌≤◌}
use mathlib.Core.Path.{◌≡◌, refl, sym, ap, ◌∙◌}
use mathlib.Core.Bool.{Bool}
use mathlib.Core.List.{List, [], ◌∷◌}
use native.Mathlib.Omega.{arith}
use lib.ListN.{length, take, drop, get_or, length-drop}
use lib.Seq.{drop-drop}
use Rattle.bits.specs.Bits.{value_of}
use Rattle.rules.specs.State.{Message}
use Rattle.plan_file.specs.Format.{Got, Got.short, Got.got, field, counted, gets}
use Rattle.plan_file.specs.Plan.{Reply}
use Rattle.plan_file.specs.Grammar.{message, reply}
use Rattle.plan_file.specs.Standing.{StandsAt, IsGot}
use Rattle.plan_file.proofs.Reading.{FieldParts, field_parts, head_parts, seen_parts, count_parts, FirstParts, first_parts, gets_length}

pub is_got : {A : Type 0} (x : Got A) (a : A) (r : List Bool) → x ≡ got a r → IsGot x
is_got x a r e = rw e tt

-- What was got, taken out again.
pub record Value {A : Type 0} (x : Got A) : Type 0 where
  pub value : A
  pub behind : List Bool
  pub is : x ≡ got value behind

pub value_got : {A : Type 0} (x : Got A) → IsGot x → Value x
value_got short h = absurd h
value_got (got a r) h = record { value = a; behind = r; is = refl }

-- A list of fields of w bits: each has its bits, and behind them is what follows.
pub record FieldList (w n : ℕ) (x : List Bool) (xs : List ℕ) (r : List Bool) : Type 0 where
  pub room : n * w ≤ length x
  pub each : (k : ℕ) → k < n → get_or xs k 0 ≡ value_of (take w (drop (k * w) x))
  pub behind : r ≡ drop (n * w) x

module _ (w n : ℕ) (x : List Bool) (r : List Bool) where
  each_field : (y : ℕ) (ys : List ℕ) (p : FirstParts (field w) n x y ys r) → FieldParts w x y p.between → FieldList w n p.between ys r
      → (k : ℕ) → k < suc n → get_or (y ∷ ys) k 0 ≡ value_of (take w (drop (k * w) x))
  each_field y ys p f g zero h = let z : zero * w ≡ zero = omega arith in rw z f.value
  each_field y ys p f g (suc k) h =
      let m : w + k * w ≡ suc k * w = omega arith in
      g.each k (omega arith) ∙ rw (f.behind, drop-drop (k * w) w x, m)

  field_more : ((y : List Bool) (ys : List ℕ) → gets (field w) n y ≡ got ys r → FieldList w n y ys r) → (xs : List ℕ) → gets (field w) (suc n) x ≡ got xs r → FieldList w (suc n) x xs r
  field_more more [] d = absurd (omega (arith, gets_length (field w) (suc n) x [] r d))
  field_more more (y ∷ ys) d =
      let p = first_parts (field w) n x y ys r d in
      let f = field_parts w x y p.between p.first in
      let g = more p.between ys p.others in
      let l : length p.between ≡ length x - w = ap length f.behind ∙ length-drop w x in
      let m : w + n * w ≡ suc n * w = omega arith in
      record {
        room = omega (arith, f.room, g.room, m);
        each = each_field y ys p f g;
        behind = g.behind ∙ ap (drop (n * w)) f.behind ∙ drop-drop (n * w) w x ∙ ap (λ (k : ℕ). drop k x) m;
      }

pub field_list : (w n : ℕ) (x : List Bool) (xs : List ℕ) (r : List Bool) → gets (field w) n x ≡ got xs r → FieldList w n x xs r
unfolding gets
field_list w zero x xs r e =
    let z : zero * w ≡ zero = omega arith in
    let h : x ≡ r = cc in
    record { room = omega arith; each = λ k l. absurd (omega arith); behind = rw z (sym h) }
field_list w (suc n) x xs r e = field_more w n x r (λ y ys d. field_list w n y ys r d) xs e

-- A message.
pub record MessageParts (b : List Bool) (at : ℕ) (m : Message) (r : List Bool) : Type 0 where
  pub room : 145 ≤ length b - at
  pub source : m.source ≡ value_of (take 6 (drop at b))
  pub destination : m.destination ≡ value_of (take 6 (drop (at + 6) b))
  pub tick : m.tick ≡ value_of (take 128 (drop (at + 12) b))
  pub size : length m.payload ≡ value_of (take 5 (drop (at + 140) b))
  pub payload : gets (field 8) (length m.payload) (drop (at + 145) b) ≡ got m.payload r

pub message_parts : (b : List Bool) (at : ℕ) (m : Message) (r : List Bool) → StandsAt message b at m r → MessageParts b at m r
unfolding message
message_parts b at m r e =
    let s = head_parts 6 _ b at _ r (seen_parts _ _ _ _ _ (drop at b) m r e) in
    let d = head_parts 6 _ b (at + 6) _ r s.behind in
    let t = head_parts 128 _ b (at + 6 + 6) _ r d.behind in
    let n₁ : at + 6 + 6 ≡ at + 12 = omega arith in
    let n₂ : at + 6 + 6 + 128 ≡ at + 140 = omega arith in
    let c = count_parts 5 (field 8) (drop (at + 140) b) m.payload r (rw n₂ at t.behind) in
    let f = field_parts 5 (drop (at + 140) b) (length m.payload) _ c.count in
    let n₃ : at + 140 + 5 ≡ at + 145 = omega arith in
    record {
      room = let h = rw length-drop at c.room in omega arith;
      source = s.value;
      destination = d.value;
      tick = rw n₁ at t.value;
      size = f.value;
      payload = rw (drop-drop 5 (at + 140) b, n₃) at c.list;
    }

-- A reply: its process, and the count of its messages in front of them.
pub record ReplyParts (b : List Bool) (at : ℕ) (x : Reply) (r : List Bool) : Type 0 where
  pub room : 16 ≤ length b - at
  pub process : x.process ≡ value_of (take 6 (drop at b))
  pub count : length x.messages ≡ value_of (take 10 (drop (at + 6) b))
  pub messages : StandsAt (counted 10 message) b (at + 6) x.messages r

pub reply_parts : (b : List Bool) (at : ℕ) (x : Reply) (r : List Bool) → StandsAt reply b at x r → ReplyParts b at x r
unfolding reply
reply_parts b at x r e =
    let s = head_parts 6 _ b at _ r (seen_parts _ _ _ _ _ (drop at b) x r e) in
    let c = count_parts 10 message (drop (at + 6) b) x.messages r s.behind in
    let f = field_parts 10 (drop (at + 6) b) (length x.messages) _ c.count in
    record { room = let h = rw length-drop at c.room in omega arith; process = s.value; count = f.value; messages = s.behind }
