-- What the definitions say in other words, for every plan: proved, so that a reader may believe either.
use Rattle.std.specs.Prelude.{◌≡◌, Bool, true, false, not, ◌||◌, List, [], ◌∷◌, ◌++◌, map, ℕ, ◌+◌, ◌*◌, ◌≤◌, leb, ltb, eqb, length, get_or}
use Rattle.rules.specs.Base.{if◌then◌otherwise◌, up_to, any, member, non_empty, rising, none, some}
use Rattle.rules.specs.Foreign.{foreign}
use Rattle.rules.specs.State.{Message, Event, State, Counters, unset, zeros, max_processes, max_edges}
use Rattle.rules.specs.Answers
use Rattle.rules.specs.Answers.{Refusal, Accepted, Refused}
use Rattle.rules.specs.Rows.{Row, ◌⇒◌, unless}
use Rattle.rules.specs.Build.{BuildOut, missing, unexpected, malformed_rows, targets, topology_rows, built, build}
use Rattle.rules.specs.Initial.{add_initial}
use Rattle.rules.specs.HandBack.{Emission, hand_back}
use Rattle.rules.specs.Calls.{Call, AddInitial, Begin, Step, HandBack}
use Rattle.rules.specs.History.{Entry, History, empty_history, run_calls, in_hand, commits, events_at}
use Rattle.rules.specs.Demand.{Demanded}
use Rattle.plan_file.specs.Plan.{PlanEdge, Reply, Plan}
use Rattle.plan_rules.specs.Setup.{setup_of, least_lookahead_of, too_long}
use Rattle.plan_rules.specs.Host.{emission, next}
use Rattle.plan_file.specs.Like.{Like, LikeEmission, Alike}
use Rattle.plan_file.specs.Events.{event_count}
use Rattle.plan_rules.specs.Run.{run, enough, ran}

-- The setup

-- The edges stand by rising source: sources never fall.
abbrev pub standing : Plan → Bool
standing p = rising leb (map (λ (e : PlanEdge). e.source) p.edges)

pub record Sets (p : Plan) : Type 0 where
  -- Build makes the file's edges, in the file's order, each with its own lookahead.
  pub edges : (built (setup_of p)).edges ≡ map (λ (e : PlanEdge). record { source = e.source; destination = e.destination; lookahead = e.lookahead; bound = e.lookahead }) p.edges
  -- 5 is for edges that do not stand by rising source, and for more than 512.
  pub five : malformed_rows (setup_of p) ≡ (not (standing p) || ltb 512 (length p.edges))
  -- 3, 4 and 6 never come.
  pub three : rising ltb (setup_of p).ids ≡ true
  pub four : missing (setup_of p).ids (up_to p.n) + unexpected p.n (setup_of p).ids ≡ 0
  pub six : any (λ q. not (member q (setup_of p).sources)) (up_to p.n) ≡ false

-- Build of a plan: 1, 2, 5, then 7 to 10 and 40. So code need make no rows where one of the first three holds.
abbrev pub turned_away : Counters → Refusal → BuildOut
turned_away c r = record { answer = Refused r; made = none; counters = c }

abbrev pub plan_rows : Plan → List Row
plan_rows p =
    (eqb p.n 0 || ltb max_processes p.n ⇒ Answers.InvalidPartitionCount p.n)
    ∷ (eqb p.lookahead 0 ⇒ Answers.InvalidLookahead)
    ∷ (not (standing p) || ltb max_edges (length p.edges) ⇒ Answers.MalformedTopology)
    ∷ topology_rows p.n (setup_of p).sources (setup_of p).counts (targets (setup_of p).destinations (setup_of p).lookaheads)

pub record Builds (p : Plan) (c : Counters) : Type 0 where
  pub table : build (setup_of p) c ≡ unless (plan_rows p) (turned_away c) (record { answer = Accepted; made = some (built (setup_of p)); counters = zeros })
  pub one : eqb p.n 0 || ltb max_processes p.n ≡ true → build (setup_of p) c ≡ turned_away c (Answers.InvalidPartitionCount p.n)
  pub two : eqb p.n 0 || ltb max_processes p.n ≡ false → eqb p.lookahead 0 ≡ true → build (setup_of p) c ≡ turned_away c Answers.InvalidLookahead
  pub five : eqb p.n 0 || ltb max_processes p.n ≡ false → eqb p.lookahead 0 ≡ false → not (standing p) || ltb max_edges (length p.edges) ≡ true → build (setup_of p) c ≡ turned_away c Answers.MalformedTopology

-- 39 without a division, and how many calls it lets pass.
pub record Limits (p : Plan) : Type 0 where
  pub no_division : too_long p ≡ leb (65537 * least_lookahead_of p) p.horizon
  pub calls : too_long p ≡ false → enough p ≤ length p.initial + 2 * event_count p + 131081

-- Replies

-- The replies of the process q in the file's order, and how many events q has handled.
unfoldable pub replies_by : ℕ → List Reply → List (List Message)
replies_by q [] = []
replies_by q (r ∷ rs) = if eqb q r.process then r.messages ∷ replies_by q rs otherwise replies_by q rs

unfoldable pub handled_by : ℕ → List Entry → ℕ
handled_by q [] = 0
handled_by q (e ∷ es) = (if commits e then length (events_at q (in_hand es)) otherwise 0) + handled_by q es

-- "The k-th reply of a process answers its k-th handled event; later ones get an empty reply."
abbrev pub answer_to : Plan → List Entry → Event → List Message
answer_to p es e = get_or (replies_by e.destination p.replies) (handled_by e.destination es) []

unfoldable pub answers_to : Plan → List Entry → List Event → List Emission
answers_to p es [] = []
answers_to p es (e ∷ bs) = map (emission e.destination) (answer_to p es e) ++ answers_to p es bs

-- The calls of a history, in their order.
unfoldable pub calls_of : List Entry → List Call
calls_of [] = []
calls_of (e ∷ es) = calls_of es ++ (e.call ∷ [])

-- Before each call of the host the tests of rows 11, 12, 13, 20, 21, 23 and 25 fail, so code that runs a plan needs none of them.
pub record Ready (p : Plan) (y : History) : Type 0 where
  pub passes : foreign y.now ≡ false
  pub healthy : (k : Call) → next p y.entries ≡ some k → y.now.poisoned ≡ false
  pub adding : (m : Message) → next p y.entries ≡ some (AddInitial m) → y.now.initial ≡ true
  pub beginning : (h b : ℕ) → next p y.entries ≡ some (Begin h b) → (y.now.running ≡ false) × (y.now.stored ≡ unset)
  pub stepping : next p y.entries ≡ some Step → (y.now.running ≡ true) × (y.now.batch ≡ [])
  pub handing : (mask : ℕ) (xs : List Emission) → next p y.entries ≡ some (HandBack mask xs) → (y.now.running ≡ true) × (non_empty y.now.batch ≡ true)

pub record Runs (p : Plan) : Type 0 where
  -- The run is the history of its calls, so demand 3 holds of it as it stands.
  pub told : (k : ℕ) → run p k ≡ run_calls (empty_history (setup_of p)) (calls_of (run p k).entries)
  pub demanded : Demanded (setup_of p) (ran p)
  -- What is handed back of the batch in hand, event by event.
  pub reply : (k mask : ℕ) (xs : List Emission) → next p (run p k).entries ≡ some (HandBack mask xs) → (mask ≡ 0) × (xs ≡ answers_to p (run p k).entries (run p k).now.batch)
  pub ready : (k : ℕ) → Ready p (run p k)

-- Payloads

-- A payload above 16 bytes is refused by its length alone, by 17 and 26: code that keeps 16 bytes of it answers the same.
pub record LongPayloads : Type 0 where
  pub initial : (s : State) (c : Counters) (a b : Message) → Like a b → add_initial s c a ≡ add_initial s c b
  pub hand_back_holds : (s : State) (c : Counters) (mask : ℕ) (xs ys : List Emission) → Alike LikeEmission xs ys → hand_back s c mask xs ≡ hand_back s c mask ys
