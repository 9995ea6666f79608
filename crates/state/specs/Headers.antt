-- Heads with some of their fields set anew.
use Rattle.std.specs.Prelude.{true, false, ℕ, ◌+◌}
use Rattle.types.specs.declared.SimTime.{SimTime}
use Rattle.state.specs.declared.Header.{Header}

-- With the GVT g.
abbrev pub with_gvt : Header → SimTime → Header
with_gvt h g = record { n = h.n; lookahead = h.lookahead; edges = h.edges; pending = h.pending; batch = h.batch; next = h.next; gvt = g; stored = h.stored; horizon = h.horizon; budget = h.budget; used = h.used; initial = h.initial; running = h.running; poisoned = h.poisoned }

-- With k pending and t in hand.
abbrev pub with_counts : Header → ℕ → ℕ → Header
with_counts h k t = record { n = h.n; lookahead = h.lookahead; edges = h.edges; pending = k; batch = t; next = h.next; gvt = h.gvt; stored = h.stored; horizon = h.horizon; budget = h.budget; used = h.used; initial = h.initial; running = h.running; poisoned = h.poisoned }

-- The run is closed.
abbrev pub closed_header : Header → Header
closed_header h = record { n = h.n; lookahead = h.lookahead; edges = h.edges; pending = h.pending; batch = h.batch; next = h.next; gvt = h.gvt; stored = h.stored; horizon = h.horizon; budget = h.budget; used = h.used; initial = h.initial; running = false; poisoned = h.poisoned }

-- The batch is lost, and poisoned is set.
abbrev pub poisoned_header : Header → Header
poisoned_header h = record { n = h.n; lookahead = h.lookahead; edges = h.edges; pending = h.pending; batch = 0; next = h.next; gvt = h.gvt; stored = h.stored; horizon = h.horizon; budget = h.budget; used = h.used; initial = h.initial; running = h.running; poisoned = true }

-- In a run with the horizon t and the budget b.
abbrev pub running_header : Header → SimTime → ℕ → Header
running_header h t b = record { n = h.n; lookahead = h.lookahead; edges = h.edges; pending = h.pending; batch = h.batch; next = h.next; gvt = h.gvt; stored = true; horizon = t; budget = b; used = 0; initial = false; running = true; poisoned = h.poisoned }

-- With one more pending, and the next sequence number.
abbrev pub enqueued_header : Header → Header
enqueued_header h = record { n = h.n; lookahead = h.lookahead; edges = h.edges; pending = h.pending + 1; batch = h.batch; next = h.next + 1; gvt = h.gvt; stored = h.stored; horizon = h.horizon; budget = h.budget; used = h.used; initial = h.initial; running = h.running; poisoned = h.poisoned }

-- The batch was handled: k emissions are queued, and u is used.
abbrev pub committed_header : Header → ℕ → ℕ → Header
committed_header h k u = record { n = h.n; lookahead = h.lookahead; edges = h.edges; pending = h.pending + k; batch = 0; next = h.next + k; gvt = h.gvt; stored = h.stored; horizon = h.horizon; budget = h.budget; used = u; initial = h.initial; running = h.running; poisoned = h.poisoned }
