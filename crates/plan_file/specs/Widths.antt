-- What the fields of a file can hold.
use Rattle.std.specs.Prelude.{◌^◌, ◌<◌, length}
use Rattle.rules.specs.State.{Message}
use Rattle.rules.proofs.Lists.{All}
use Rattle.plan_file.specs.Plan.{PlanEdge, Reply, Plan}

pub record EdgeWidths (e : PlanEdge) : Type 0 where
  pub source : e.source < 64
  pub destination : e.destination < 64
  pub lookahead : e.lookahead < 2 ^ 128

pub record MessageWidths (m : Message) : Type 0 where
  pub source : m.source < 64
  pub destination : m.destination < 64
  pub tick : m.tick < 2 ^ 128
  pub size : length m.payload < 32
  pub bytes : All (λ x. x < 256) m.payload

pub record ReplyWidths (r : Reply) : Type 0 where
  pub process : r.process < 64
  pub count : length r.messages < 1024
  pub messages : All MessageWidths r.messages

pub record Widths (p : Plan) : Type 0 where
  pub n : p.n < 128
  pub lookahead : p.lookahead < 2 ^ 128
  pub horizon : p.horizon < 2 ^ 128
  pub budget : p.budget < 2 ^ 64
  pub edge_count : length p.edges < 1024
  pub initial_count : length p.initial < 1024
  pub reply_count : length p.replies < 1024
  pub edges : All EdgeWidths p.edges
  pub initial : All MessageWidths p.initial
  pub replies : All ReplyWidths p.replies
