-- A message is read off its bits.
use Prim.Native.Nat.{ℕ, ◌+◌, ◌-◌, ◌*◌, ◌≤◌}
use mathlib.Core.Path.{◌≡◌, refl, sym, ◌∙◌}
use mathlib.Core.Bool.{Bool}
use mathlib.Core.List.{List}
use native.Mathlib.Omega.{arith}
use lib.ListN.{length, take, drop, length-drop}
use lib.Seq.{drop-drop}
use Rattle.types.specs.declared.LpId.{LpId}
use Rattle.types.specs.declared.SimTime.{SimTime}
use Rattle.types.specs.Value.{ticks_of, lp_id_of}
use Rattle.records.proofs.Stored.{length_payload}
use Rattle.rules.specs.State.{Message}
use Rattle.state.specs.View.{message_of}
use Rattle.bits.specs.Bits.{value_of}
use Rattle.bits.specs.Bytes.{stream}
use Rattle.bits.proofs.Streams.{length_stream}
use Rattle.plan_file.specs.Format.{Got.got, field, gets}
use Rattle.plan_file.specs.Grammar.{message}
use Rattle.plan_file.specs.Standing.{StandsAt, IsGot}
use Rattle.plan_file.specs.Like.{Like}
use Rattle.plan_file.proofs.Messages.{value_got, field_list, MessageParts, message_parts}
use Rattle.plan_reader.specs.declared.MessageAt.{MessageAt}
use Rattle.plan_reader.specs.declared.Payload.{Payload}
use Rattle.plan_reader.specs.Read.{PayloadRead, MessageRead}

-- Its bits are there, with n bytes of payload.
pub message_room : (s : List ℕ) (at : ℕ) → IsGot (message.get (drop at (stream s))) → (n : ℕ) → n ≡ value_of (take 5 (drop (at + 140) (stream s))) → at + 145 + n * 8 ≤ length s * 8
message_room s at h n e =
    let g = value_got (message.get (drop at (stream s))) h in
    let p = message_parts (stream s) at g.value g.behind g.is in
    let f = field_list 8 _ (drop (at + 145) (stream s)) _ _ p.payload in
    let l : length g.value.payload ≡ n = p.size ∙ sym e in
    let a : 145 ≤ length s * 8 - at = rw length_stream at p.room in
    let c : n * 8 ≤ length s * 8 - (at + 145) = rw (length-drop, length_stream, l) at f.room in
    omega arith

pub fields_room : (s : List ℕ) (at : ℕ) → IsGot (message.get (drop at (stream s))) → at + 145 ≤ length s * 8
fields_room s at h = omega (arith, message_room s at h _ refl)

module _ (b : List Bool) (at n : ℕ) (x y : LpId) (t : SimTime) (w : Payload)
    (ex : lp_id_of x ≡ value_of (take 6 (drop at b))) (ey : lp_id_of y ≡ value_of (take 6 (drop (at + 6) b))) (et : ticks_of t ≡ value_of (take 128 (drop (at + 12) b)))
    (en : n ≡ value_of (take 5 (drop (at + 140) b))) (ew : PayloadRead b (at + 145) n w) (room : at + 145 + n * 8 ≤ length b) where
  abbrev found : MessageAt
  found = record { message = record { source = x; destination = y; tick = t; len = n; payload_hi = w.hi; payload_lo = w.lo }; next = at + 145 + n * 8 }

  module _ (m : Message) (behind : List Bool) (e : StandsAt message b at m behind) where
    abbrev p : MessageParts b at m behind
    p = message_parts b at m behind e

    size : length m.payload ≡ n
    size = p.size ∙ sym en

    list : gets (field 8) n (drop (at + 145) b) ≡ got m.payload behind
    list = rw size at p.payload

    like : Like m (message_of found.message)
    like = record {
      source = p.source ∙ sym ex;
      destination = p.destination ∙ sym ey;
      tick = p.tick ∙ sym et;
      size = size ∙ sym (length_payload n w.hi w.lo);
      payload = λ h. ew.bytes m.payload behind list (omega (arith, size));
    }

    ends : drop (at + 145 + n * 8) b ≡ behind
    ends = sym ((field_list 8 n (drop (at + 145) b) m.payload behind list).behind ∙ drop-drop (n * 8) (at + 145) b)

  pub message_read : MessageRead b at found
  message_read = record { like = like; next = ends; inside = room }
