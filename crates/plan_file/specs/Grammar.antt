-- The plan file's grammar, one expression a record: document 02, A.1, as A.4 amends it.
use Rattle.std.specs.Prelude.{refl}
use Rattle.rules.specs.State.{Message}
use Rattle.plan_file.specs.Format.{Format, field, pair, counted, seen}
use Rattle.plan_file.specs.Plan.{PlanEdge, Reply, Plan}

-- "each edge source 6 and destination 6"; A.4: "The file's edges gain 128 bits, behind the destination".
unfoldable pub edge : Format PlanEdge
edge =
    seen (pair (field 6) (pair (field 6) (field 128)))
    (λ p. record { source = p.0; destination = p.1.0; lookahead = p.1.1 })
    (λ e. (e.source, (e.destination, e.lookahead))) (λ e. refl) (λ p. refl)

-- "each event source 6, destination 6, tick 128, payload length 5, then its bytes"
unfoldable pub message : Format Message
message =
    seen (pair (field 6) (pair (field 6) (pair (field 128) (counted 5 (field 8)))))
    (λ p. record { source = p.0; destination = p.1.0; tick = p.1.1.0; payload = p.1.1.1 })
    (λ m. (m.source, (m.destination, (m.tick, m.payload)))) (λ m. refl) (λ p. refl)

-- "each process 6, emission count 10 and emissions as events"
unfoldable pub reply : Format Reply
reply =
    seen (pair (field 6) (counted 10 message))
    (λ p. record { process = p.0; messages = p.1 }) (λ r. (r.process, r.messages)) (λ r. refl) (λ p. refl)

-- "process count 7 bits, lookahead 128, horizon 128, budget 64; edge count 10, ..; initial count 10, ..; reply count 10, .."
unfoldable pub plan : Format Plan
plan =
    seen (pair (field 7) (pair (field 128) (pair (field 128) (pair (field 64) (pair (counted 10 edge) (pair (counted 10 message) (counted 10 reply)))))))
    (λ p. record { n = p.0; lookahead = p.1.0; horizon = p.1.1.0; budget = p.1.1.1.0; edges = p.1.1.1.1.0; initial = p.1.1.1.1.1.0; replies = p.1.1.1.1.1.1 })
    (λ x. (x.n, (x.lookahead, (x.horizon, (x.budget, (x.edges, (x.initial, x.replies))))))) (λ x. refl) (λ p. refl)
