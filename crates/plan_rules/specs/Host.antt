-- The host of a plan: what it calls next, from the calls and answers so far (the last one first).
use Rattle.std.specs.Prelude.{List, [], ◌∷◌, ◌++◌, map, ℕ, eqb, drop}
use Rattle.rules.specs.Base.{if◌then◌otherwise◌, Maybe, none, some}
use Rattle.rules.specs.State.{Message, Event}
use Rattle.rules.specs.Answers.{Answer, Accepted, Batch, Advanced, Finished, Committed, Read, Planned, Refused}
use Rattle.rules.specs.HandBack.{Emission}
use Rattle.rules.specs.Calls.{Call, AddInitial, Begin, Step, HandBack}
use Rattle.rules.specs.History.{Entry, is_initial, initials, in_hand, commits}
use Rattle.plan_file.specs.Plan.{Reply, Plan}

-- "The k-th reply of a process answers its k-th handled event; later ones get an empty reply": the first reply of p that is left, and those without it.
unfoldable pub reply_of : ℕ → List Reply → List Message
reply_of p [] = []
reply_of p (r ∷ rs) = if eqb p r.process then r.messages otherwise reply_of p rs

unfoldable pub without : ℕ → List Reply → List Reply
without p [] = []
without p (r ∷ rs) = if eqb p r.process then rs otherwise r ∷ without p rs

-- What is left when the events bs are handled, in turn.
unfoldable pub spend : List Event → List Reply → List Reply
spend [] rs = rs
spend (e ∷ bs) rs = spend bs (without e.destination rs)

-- What the processes of the batch bs emit, event by event.
abbrev pub emission : ℕ → Message → Emission
emission p m = record { emitter = p; message = m }

unfoldable pub due : List Reply → List Event → List Emission
due rs [] = []
due rs (e ∷ bs) = map (emission e.destination) (reply_of e.destination rs) ++ due (without e.destination rs) bs

-- The replies that no handled event has used.
unfoldable pub left : Plan → List Entry → List Reply
left p [] = p.replies
left p (e ∷ es) = if commits e then spend (in_hand es) (left p es) otherwise left p es

-- "the initial events in turn, then the run"
unfoldable pub or_begin : Plan → List Message → Call
or_begin p [] = Begin p.horizon p.budget
or_begin p (m ∷ ms) = AddInitial m

unfoldable pub opening : Plan → List Entry → Call
opening p es = or_begin p (drop (initials es) p.initial)

-- After the call k with its answer, the last of the entries es. "the first refusal ends it".
unfoldable pub after : Plan → List Entry → Call → Answer → Maybe Call
after p es k Accepted = some (if is_initial k then opening p es otherwise Step)
after p es k (Batch bs g) = some (HandBack 0 (due (left p es) bs))
after p es k (Advanced g) = some Step
after p es k (Committed g) = some Step
after p es k (Finished g) = none
after p es k (Refused r) = none
after p es k (Read r) = none
after p es k (Planned j) = none

unfoldable pub next : Plan → List Entry → Maybe Call
next p [] = some (opening p [])
next p (e ∷ es) = after p (e ∷ es) e.call e.answer
