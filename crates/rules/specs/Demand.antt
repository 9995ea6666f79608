-- Demand 3, as one statement about a list of calls as a whole.
use Rattle.std.specs.Prelude.{◌≡◌, false, List, [], ◌∷◌, map, ℕ, ◌+◌, ◌*◌, ◌/◌, ◌≤◌, min, length}
use Rattle.rules.specs.State.{Event, max_count, max_tick}
use Rattle.rules.specs.Answers.{Reading, Read, Gvt, Counted, Pending, Earliest, number}
use Rattle.rules.specs.Build.{Setup}
use Rattle.rules.specs.Refresh.{least}
use Rattle.rules.specs.Reads.{read_gvt, read_counters, read_pending, read_earliest}
use Rattle.rules.specs.History.{Entry, History, L, E, R, H, initials, in_hand, handled, emitted, remote, rounds, null_message_count, worker_count_of, used, handed_to}

abbrev pub Nondecreasing : List ℕ → Type 0
Nondecreasing [] = Unit {0}
Nondecreasing (x ∷ []) = Unit {0}
Nondecreasing (x ∷ y ∷ ys) = (x ≤ y) × Nondecreasing (y ∷ ys)

-- No call of the list answered with the number k.
abbrev pub Never : ℕ → List Entry → Type 0
Never k [] = Unit {0}
Never k (e ∷ es) = (number e.answer ≡ k → ⊥) × Never k es

-- The counts as the counters read them: each, or 2^64 - 1 where it is larger. A batch has at most 64 events, so the worker count never is.
abbrev pub counts : List Entry → Reading
counts es =
    Counted
    (record {
      handled = min max_count (handled es);
      emitted = min max_count (emitted es);
      remote = min max_count (remote es);
      rounds = min max_count (rounds es);
      null_messages = min max_count (null_message_count es);
      worker_count = worker_count_of es;
    })
    (min max_count (used es))

pub record Demanded (a : Setup) (y : History) : Type 0 where
  -- Each process was handed its events in nondecreasing tick order.
  pub order : (p : ℕ) → Nondecreasing (map (λ (e : Event). e.tick) (handed_to p y.entries))
  -- Unless a call poisoned the runtime: accepted initial events + emitted = handled + pending + in hand.
  pub conserved : y.now.poisoned ≡ false → initials y.entries + emitted y.entries ≡ handled y.entries + length y.now.pending + length (in_hand y.entries)
  -- "Pending is what its read answers then."
  pub pending : (read_pending y.now y.counters).answer ≡ Read (Pending (length y.now.pending))
  -- rounds ≤ handled + floor(H / L) + 2 × R
  pub few_rounds : rounds y.entries ≤ handled y.entries + H y.entries / L a + 2 * R y.entries
  -- null messages ≤ E × (floor(H / L) + R)
  pub few_null_messages : null_message_count y.entries ≤ E a * (H y.entries / L a + R y.entries)
  -- "The counters read after the list equal these counts, or 2^64 - 1 where one is larger."
  pub counters : (read_counters y.now y.counters).answer ≡ Read (counts y.entries)
  -- "each read after the list, gets the state and the counters that the call before it left": the other two reads.
  pub gvt : (read_gvt y.now y.counters).answer ≡ Read (Gvt y.now.gvt)
  pub earliest : (read_earliest y.now y.counters).answer ≡ Read (Earliest (least max_tick (map (λ (e : Event). e.tick) y.now.pending)))
  -- No call of the list is refused with 11.
  pub no_foreign : Never 11 y.entries
  -- Beyond document 01, for request A.5 of document 02: nor with 33.
  pub no_straggler : Never 33 y.entries
