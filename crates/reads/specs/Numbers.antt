-- Document 01's number and values of what a read answers: "For any answer that is an enum, a definition gives this paper's number and values for each of its cases."
use Rattle.std.specs.Prelude.{List, [], ◌∷◌, ℕ, Result, Ok, Err}
use Rattle.types.specs.Value.{ticks_of}
use Rattle.state.specs.declared.Refusal.{Refusal}
use Rattle.state.specs.Numbers.{number_for, values_for}
use Rattle.reads.specs.declared.Reading.{Reading}
use Rattle.reads.specs.declared.Reading.TheVariants as P

-- Column "No."; 0 where nothing is refused.
abbrev pub number_of : Result Reading Refusal → ℕ
number_of (Ok a) = 0
number_of (Err r) = number_for r

-- "Reads: GVT, counters, how many are pending, earliest pending tick"; the counters are the six of the report, and used.
abbrev pub values_of : Result Reading Refusal → List ℕ
values_of (Ok (P.Gvt g)) = ticks_of g ∷ []
values_of (Ok (P.Counted c u)) = c.processed_events ∷ c.emitted_events ∷ c.remote_events ∷ c.rounds ∷ c.null_messages ∷ c.worker_count ∷ u ∷ []
values_of (Ok (P.Pending k)) = k ∷ []
values_of (Ok (P.Earliest t)) = ticks_of t ∷ []
values_of (Err r) = values_for r
