-- Both laws of a file: what is written reads back as the same contents, and a file that is let pass has exactly the bytes that are written of its
-- contents. And what its fields can hold.
use Prim.Native.Nat.{ℕ, ◌+◌, ◌*◌, ◌/◌, ◌^◌, ◌<◌, ◌≤◌}
use mathlib.Core.Path.{◌≡◌, sym, ap, ◌∙◌}
use mathlib.Core.Bool.{Bool}
use mathlib.Core.List.{List, ◌++◌}
use native.Mathlib.Omega.{arith}
use native.Mathlib.Nat.{zero-mod}
use lib.ListN.{length, length-append}
use borrow.Author.Tests.{le-ltb, lt-ltb, eq-eqb}
use Rattle.bits.specs.Bits.{bits_of, value_of}
use Rattle.bits.specs.Bytes.{stream, Bytes}
use Rattle.bits.proofs.Fields.{length_bits, value_bits, bits_value}
use Rattle.bits.proofs.Streams.{length_stream, stream_pack, pack_stream}
use Rattle.rules.specs.Base.{if◌then◌otherwise◌}
use Rattle.rules.specs.State.{Message}
use Rattle.rules.proofs.Lists.{all_map}
use Rattle.plan_file.specs.Format.{Got.got, Reads, field, pair, counted, seen}
use Rattle.plan_file.specs.Plan.{PlanEdge, Reply, Plan}
use Rattle.plan_file.specs.Grammar.{edge, message, reply, plan}
use Rattle.plan_file.specs.File.{Answer.contents, decode, ended, padding, padded, encode}
use Rattle.plan_file.specs.Widths.{EdgeWidths, MessageWidths, ReplyWidths, Widths}
use Rattle.plan_file.proofs.Numbers.{Decoded, decoded}

length_padded : (p : Plan) → length (padded p) ≡ length (padded p) / 8 * 8
unfolding padded padding
length_padded p = rw (length-append, length_bits) (omega arith)

stream_encode : (p : Plan) → stream (encode p) ≡ padded p
unfolding encode
stream_encode p = stream_pack (length (padded p) / 8) (padded p) (length_padded p)

pub decode_encode : (p : Plan) → plan.In p → length (encode p) ≤ 16384 → decode (encode p) ≡ contents p
unfolding decode ended if◌then◌otherwise◌ padded padding
decode_encode p h l =
    let n = padding (length (plan.put p)) in
    let z : value_of (bits_of n 0) ≡ 0 = value_bits n 0 ∙ zero-mod (2 ^ n) in
    let m : length (bits_of n 0) < 8 = rw length_bits (omega arith) in
    rw (le-ltb 16384 (length (encode p)) l, stream_encode p, plan.put_get p (bits_of n 0) h, lt-ltb (length (bits_of n 0)) 8 m, eq-eqb (value_of (bits_of n 0)) 0 z)

module _ (s : List ℕ) (p : Plan) (e : decode s ≡ contents p) where
  abbrev d : Decoded s p
  d = decoded s p e

  reads : Reads plan.In plan.put (stream s) (got p d.behind)
  reads = rw d.reads at (plan.get_put (stream s))

  pub decode_bits : plan.put p ++ d.behind ≡ stream s
  decode_bits = reads.0

  pub decode_in : plan.In p
  decode_in = reads.1

  pub decode_length : length (plan.put p) ≤ 131072
  decode_length =
      let m : length (plan.put p) + length d.behind ≡ length s * 8 = sym (length-append (plan.put p) d.behind) ∙ ap length decode_bits ∙ length_stream s in
      omega (arith, d.size)

  is_padded : stream s ≡ padded p
  unfolding padded padding
  is_padded =
      let m : length (plan.put p) + length d.behind ≡ length s * 8 = sym (length-append (plan.put p) d.behind) ∙ ap length decode_bits ∙ length_stream s in
      let n : padding (length (plan.put p)) ≡ length d.behind = omega (arith, d.few) in
      let g : bits_of (padding (length (plan.put p))) 0 ≡ d.behind = rw n (rw d.zero at (bits_value d.behind)) in
      sym (ap (λ (t : List Bool). plan.put p ++ t) g ∙ decode_bits)

  pub encode_decode : Bytes s → encode p ≡ s
  unfolding encode
  encode_decode h =
      let k : length (stream s) / 8 ≡ length s = rw length_stream (omega arith) in
      rw (sym is_padded, k) (pack_stream s h)

-- What the fields can hold.
edge_widths : (x : PlanEdge) → edge.In x → EdgeWidths x
unfolding edge seen pair field
edge_widths x h = record { source = h.0; destination = h.1.0; lookahead = h.1.1 }

pub message_widths : (m : Message) → message.In m → MessageWidths m
unfolding message seen pair counted field
message_widths m h = record { source = h.0; destination = h.1.0; tick = h.1.1.0; size = h.1.1.1.0; bytes = h.1.1.1.1 }

pub reply_widths : (r : Reply) → reply.In r → ReplyWidths r
unfolding reply seen pair counted field
reply_widths r h = record { process = h.0; count = h.1.0; messages = all_map message.In MessageWidths message_widths r.messages h.1.1 }

widths_in : (p : Plan) → plan.In p → Widths p
unfolding plan seen pair counted field
widths_in p h =
    let es = h.1.1.1.1.0 in
    let is = h.1.1.1.1.1.0 in
    let rs = h.1.1.1.1.1.1 in
    record {
      n = h.0;
      lookahead = h.1.0;
      horizon = h.1.1.0;
      budget = h.1.1.1.0;
      edge_count = es.0;
      initial_count = is.0;
      reply_count = rs.0;
      edges = all_map edge.In EdgeWidths edge_widths p.edges es.1;
      initial = all_map message.In MessageWidths message_widths p.initial is.1;
      replies = all_map reply.In ReplyWidths reply_widths p.replies rs.1;
    }

pub widths : (s : List ℕ) (p : Plan) → decode s ≡ contents p → Widths p
widths s p e = widths_in p (decode_in s p e)
