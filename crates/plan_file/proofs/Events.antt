-- A file holds at most 901 events: an event has 145 bits at least, and the header with its three counts has 357.
use Prim.Native.Nat.{ℕ, ◌+◌, ◌*◌, ◌≤◌}
use mathlib.Core.Path.{◌≡◌}
use mathlib.Core.List.{List, [], ◌∷◌, ◌++◌}
use native.Mathlib.Omega.{arith}
use lib.ListN.{length, length-append}
use Rattle.bits.proofs.Fields.{length_bits}
use Rattle.rules.specs.State.{Message}
use Rattle.plan_file.specs.Format.{field, pair, puts, counted, seen}
use Rattle.plan_file.specs.Plan.{Reply, Plan}
use Rattle.plan_file.specs.Grammar.{message, reply, plan}
use Rattle.plan_file.specs.File.{Answer.contents, decode}
use Rattle.plan_file.specs.Events.{emission_count, event_count}
use Rattle.plan_file.proofs.Files.{decode_length}

message_length : (m : Message) → 145 ≤ length (message.put m)
unfolding message seen pair counted field
message_length m = simp (length-append, length_bits) (omega arith)

messages_length : (ms : List Message) → length ms * 145 ≤ length (puts message ms)
unfolding puts
messages_length [] = omega arith
messages_length (m ∷ ms) =
    let t : (length ms + 1) * 145 ≤ length (message.put m ++ puts message ms) = rw length-append (omega (arith, message_length m, messages_length ms)) in
    omega (arith, t)

reply_length : (r : Reply) → length r.messages * 145 ≤ length (reply.put r)
unfolding reply seen pair counted field
reply_length r = simp (length-append, length_bits) (omega (arith, messages_length r.messages))

replies_length : (rs : List Reply) → emission_count rs * 145 ≤ length (puts reply rs)
unfolding puts emission_count
replies_length [] = omega arith
replies_length (r ∷ rs) =
    let t : (length r.messages + emission_count rs) * 145 ≤ length (reply.put r ++ puts reply rs) = rw length-append (omega (arith, reply_length r, replies_length rs)) in
    t

plan_length : (p : Plan) → 357 + event_count p * 145 ≤ length (plan.put p)
unfolding plan seen pair counted field event_count
plan_length p = simp (length-append, length_bits) (omega (arith, messages_length p.initial, replies_length p.replies))

pub few_events : (s : List ℕ) (p : Plan) → decode s ≡ contents p → event_count p ≤ 901
few_events s p e = omega (arith, plan_length p, decode_length s p e)
