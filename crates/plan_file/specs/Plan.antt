-- What a plan file says: document 02, A.1, and A.4: each edge has its own lookahead.
use Rattle.std.specs.Prelude.{ℕ, List}
use Rattle.rules.specs.State.{Message}

-- "each edge source .. and destination"; A.4: "Each edge gets its own lookahead".
pub record PlanEdge : Type 0 where
  pub source : ℕ
  pub destination : ℕ
  pub lookahead : ℕ

-- "reply count .., each process .., emission count .. and emissions as events"
pub record Reply : Type 0 where
  pub process : ℕ
  pub messages : List Message

-- An initial event and an emission of a reply are messages: events before they are accepted.
pub record Plan : Type 0 where
  pub n : ℕ
  pub lookahead : ℕ
  pub horizon : ℕ
  pub budget : ℕ
  pub edges : List PlanEdge
  pub initial : List Message
  pub replies : List Reply
