-- What was read at a place of a plan file.
use Rattle.std.specs.Prelude.{ℕ, ◌≤◌, ◌≡◌, Bool, List, length, drop}
use Rattle.types.specs.Value.{ticks_of, duration_of}
use Rattle.records.specs.Records.{payload_of}
use Rattle.rules.specs.State.{Message, max_payload}
use Rattle.state.specs.View.{message_of}
use Rattle.plan_file.specs.Format.{Got.got, field, gets}
use Rattle.plan_file.specs.Plan.{Plan}
use Rattle.plan_file.specs.Grammar.{message}
use Rattle.plan_file.specs.File.{Answer.contents, decode}
use Rattle.plan_file.specs.Standing.{StandsAt}
use Rattle.plan_file.specs.Like.{Like}
use Rattle.plan_reader.specs.declared.MessageAt.{MessageAt}
use Rattle.plan_reader.specs.declared.Payload.{Payload}
use Rattle.plan_reader.specs.declared.PlanHeader.{PlanHeader}

-- Of n bytes at the place `at`, no more than the words have room for, r has all.
pub record PayloadRead (b : List Bool) (at n : ℕ) (r : Payload) : Type 0 where
  pub bytes : (xs : List ℕ) (behind : List Bool) → gets (field 8) n (drop at b) ≡ got xs behind → n ≤ max_payload → xs ≡ payload_of n r.hi r.lo

-- The message r is like the one that stands at the place `at`, and the place after it is behind that one.
pub record MessageRead (b : List Bool) (at : ℕ) (r : MessageAt) : Type 0 where
  pub like : (m : Message) (behind : List Bool) → StandsAt message b at m behind → Like m (message_of r.message)
  pub next : (m : Message) (behind : List Bool) → StandsAt message b at m behind → drop r.next b ≡ behind
  pub inside : r.next ≤ length b

-- The header r is that of the plan p.
pub record HeaderOf (p : Plan) (r : PlanHeader) : Type 0 where
  pub n : r.n ≡ p.n
  pub lookahead : duration_of r.lookahead ≡ p.lookahead
  pub horizon : ticks_of r.horizon ≡ p.horizon
  pub budget : r.budget ≡ p.budget

abbrev pub HeaderRead : List ℕ → PlanHeader → Type 0
HeaderRead s r = (p : Plan) → decode s ≡ contents p → HeaderOf p r
