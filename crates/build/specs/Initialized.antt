-- What an accepted build makes, and what stands for nothing made.
use Rattle.std.specs.Prelude.{◌≡◌, false, List, [], ℕ, ◌*◌, length, drop}
use Rattle.words.specs.Words.{zeroes}
use Rattle.rules.specs.Build.{setup, built}
use Rattle.rules.specs.Foreign.{foreign}
use Rattle.build_topology.specs.Lookaheads.{lookaheads_for}
use Rattle.build_edges.specs.Written.{Writable}
use Rattle.state.specs.declared.Header.{Header}
use Rattle.state.specs.declared.Runtime.{Runtime}
use Rattle.state.specs.View.{view}

-- What making it asks: rows that can be written, a state that passes 11, as that of an accepted build does (proofs/Initializing.antt, can-initialize), and zeros in the table of the processes. The ids play no part in what is made.
pub record CanInitialize (n L : ℕ) (sources counts destinations lookaheads edges processes : List ℕ) : Type 0 where
  pub writable : Writable sources counts destinations lookaheads edges
  pub passes : foreign (built (setup n L [] sources counts destinations (lookaheads_for destinations lookaheads))) ≡ false
  pub blank : processes ≡ zeroes 256

-- "Once built, nothing is pending, ..": with these edges and processes the header is that of the built state, whose record is that of its edges (A.2). The pending words and those of the batch may be any.
pub record Initializes (n L : ℕ) (sources counts destinations lookaheads entry exit processes : List ℕ) (r : Header) : Type 0 where
  pub state : (ids P B : List ℕ) → view r exit P processes B ≡ built (setup n L ids sources counts destinations (lookaheads_for destinations lookaheads))
  pub behind : drop (6 * length destinations) exit ≡ drop (6 * length destinations) entry

-- All zeros: a process count of 0 is foreign.
abbrev pub empty_header : Header
empty_header = record { n = 0; lookahead = record { hi = 0; lo = 0 }; edges = 0; pending = 0; batch = 0; next = 0; gvt = record { hi = 0; lo = 0 }; stored = false; horizon = record { hi = 0; lo = 0 }; budget = 0; used = 0; initial = false; running = false; poisoned = false }

-- "nothing made": the state that stands for none. Every later call refuses it (runtime/proofs/Empty).
abbrev pub empty_runtime : Runtime
empty_runtime = record { edges = zeroes 3072; pending = zeroes 4096; processes = zeroes 256; batch = zeroes 512; head = empty_header }
