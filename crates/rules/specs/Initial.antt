-- Add initial: rows 11, 12, then 13 to 19.
use Rattle.std.specs.Prelude.{not, List, [], ◌∷◌, suc, ◌+◌, leb, ltb, length}
use Rattle.rules.specs.State.{State, Counters, Message, numbered, with_pending, max_count, max_pending, max_payload}
use Rattle.rules.specs.Answers
use Rattle.rules.specs.Answers.{Accepted}
use Rattle.rules.specs.Rows.{Row, ◌⇒◌, unless, Out, out, refuse}
use Rattle.rules.specs.Pending.{insert, route}
use Rattle.rules.specs.Foreign.{foreign}

-- "Every later call on a state checks 11 first, then all but the reads 12. Then add initial 13 to 19".
abbrev pub initial_rows : State → Message → List Row
initial_rows s m =
    (foreign s ⇒ Answers.ForeignState)
    ∷ (s.poisoned ⇒ Answers.Poisoned)
    ∷ (not s.initial ⇒ Answers.InitialEventsAlreadyClosed)
    ∷ (leb s.n m.source ⇒ Answers.UnknownInitialSource m.source)
    ∷ (leb s.n m.destination ⇒ Answers.UnknownInitialDestination m.destination)
    ∷ (not (route s.edges m.source m.destination) ⇒ Answers.InitialRouteMissing m.source m.destination)
    ∷ (ltb max_payload (length m.payload) ⇒ Answers.PayloadTooLong (length m.payload))
    ∷ (leb max_pending (length s.pending) ⇒ Answers.QueueFull)
    ∷ (ltb max_count (s.next + 1) ⇒ Answers.EventSequenceOverflow)
    ∷ []

-- "accepted, it gets the next sequence number from 0".
unfoldable pub add_initial : State → Counters → Message → Out
add_initial s c m = unless (initial_rows s m) (refuse s c) (out Accepted (with_pending s (insert (numbered m s.next) s.pending) (suc s.next)) c)
