-- Demand 3 of the functions themselves: what is known of each call is what the check proves of its function.
-- Of each function F rattle makes `F.clauses`, the contract itself; `F.Reads.Learnt`, what a caller learns from its `ensures`; and `F.Statement.statement`, what "fn F: proved" proves. `RefT` is a reference, with the value that it refers to; the lifetimes κs play no part here.
use Rattle.std.specs.Prelude.{◌≡◌, List, [], ◌∷◌, map, ℕ, ◌/◌, length, Result}
use seplogic.Ra.Ura.{Ura}
use base.Logic.{SProp, ent}
use prog.Memory.{Memory}
use prog.Routine.{Routine}
use types.Logic.{Logic}
use contract.Lifetimes.{Lfts}
use contract.Monad.{Fun, fact, conj}
use Rattle.std.specs.Borrow.{Bor, MutBor}
use Rattle.types.specs.declared.SimTime.{SimTime}
use Rattle.types.specs.declared.SimDuration.{SimDuration}
use Rattle.types.specs.Value.{ticks_of, duration_of}
use Rattle.rules.specs.State.{Event, max_tick}
use Rattle.rules.specs.Refresh.{least}
use Rattle.rules.specs.Answers.{Answer, Accepted, Read, Gvt, Pending, Earliest}
use Rattle.rules.specs.Build.{setup}
use Rattle.rules.specs.Calls as R
use Rattle.rules.specs.Demand.{counts}
use Rattle.reply_words.specs.Emissions.{emissions_of}
use Rattle.state.specs.declared.Runtime.{Runtime}
use Rattle.state.specs.declared.Counters.{Counters}
use Rattle.state.specs.declared.Message.{Message}
use Rattle.state.specs.View.{view_of, message_of}
use Rattle.build_topology.specs.Lookaheads.{lookaheads_for}
use Rattle.build.specs.Checks.{answer_of}
use Rattle.runtime.specs.declared.BuildResult.{BuildResult}
use Rattle.runtime.specs.declared.CallResult.{CallResult}
use Rattle.runtime.specs.contracts.build as build
use Rattle.runtime.proofs.build.Reads as build'
use Rattle.runtime.proofs.build.Statement as build''
use Rattle.runtime.specs.contracts.add_initial as add_initial
use Rattle.runtime.proofs.add_initial.Reads as add_initial'
use Rattle.runtime.proofs.add_initial.Statement as add_initial''
use Rattle.runtime.specs.contracts.begin as begin
use Rattle.runtime.proofs.begin.Reads as begin'
use Rattle.runtime.proofs.begin.Statement as begin''
use Rattle.runtime.specs.contracts.step as step
use Rattle.runtime.proofs.step.Reads as step'
use Rattle.runtime.proofs.step.Statement as step''
use Rattle.runtime.specs.contracts.hand_back as hand_back
use Rattle.runtime.proofs.hand_back.Reads as hand_back'
use Rattle.runtime.proofs.hand_back.Statement as hand_back''
use Rattle.reads.specs.contracts.read_gvt as read_gvt
use Rattle.reads.proofs.read_gvt.Reads as read_gvt'
use Rattle.reads.proofs.read_gvt.Statement as read_gvt''
use Rattle.reads.specs.contracts.read_counters as read_counters
use Rattle.reads.proofs.read_counters.Reads as read_counters'
use Rattle.reads.proofs.read_counters.Statement as read_counters''
use Rattle.reads.specs.contracts.read_pending as read_pending
use Rattle.reads.proofs.read_pending.Reads as read_pending'
use Rattle.reads.proofs.read_pending.Statement as read_pending''
use Rattle.reads.specs.contracts.read_earliest as read_earliest
use Rattle.reads.proofs.read_earliest.Reads as read_earliest'
use Rattle.reads.proofs.read_earliest.Statement as read_earliest''
use Rattle.host.specs.contracts.build as host_build
use Rattle.host.proofs.build.Statement as host_build''
use Rattle.host.specs.contracts.add_initial as host_initial
use Rattle.host.proofs.add_initial.Statement as host_initial''
use Rattle.host.specs.contracts.begin as host_begin
use Rattle.host.proofs.begin.Statement as host_begin''
use Rattle.host.specs.contracts.step as host_step
use Rattle.host.proofs.step.Statement as host_step''
use Rattle.host.specs.contracts.hand_back as host_back
use Rattle.host.proofs.hand_back.Statement as host_back''
use Rattle.host.specs.contracts.read_gvt as host_gvt
use Rattle.host.proofs.read_gvt.Statement as host_gvt''
use Rattle.host.specs.contracts.read_counters as host_counters
use Rattle.host.proofs.read_counters.Statement as host_counters''
use Rattle.host.specs.contracts.read_pending as host_pending
use Rattle.host.proofs.read_pending.Statement as host_pending''
use Rattle.host.specs.contracts.read_earliest as host_earliest
use Rattle.host.proofs.read_earliest.Statement as host_earliest''
use Rattle.host.specs.declared.HostBuildResult.{HostBuildResult}
use Rattle.host.specs.HostBuildResult.{build_result_of}
use Rattle.state.specs.declared.Refusal.{Refusal}
use Rattle.reads.specs.declared.Reading.{Reading}
use Rattle.build_topology.specs.declared.Rows.{Rows}
use Rattle.reads.specs.Reads.{read_of}
use Rattle.call_list_theorem.specs.Links.{Link, state_left, counters_left, history}
use Rattle.call_list_theorem.specs.Demand3.{Demand3OfProgram}
use Rattle.call_list_theorem.specs.Asking.{AsksNothing}
use Rattle.call_list_theorem.specs.Host as Host
use Rattle.call_list_theorem.specs.Host.{HostCallMade, LentInTurn, AllEnsured}

-- A call as `runtime` takes it: its arguments beside the runtime and the counters.
pub data CallArguments : Type 0 where
  AddInitial : Message → CallArguments
  Begin : SimTime → ℕ → CallArguments
  Step : CallArguments
  HandBack : Lfts 1 → ℕ → Bor (List ℕ) → CallArguments

-- A call and what it gave.
pub record CallMade : Type 0 where
  pub asked : CallArguments
  pub gave : CallResult

-- What the function's own contract tells its caller, called with the runtime s and the counters c.
abbrev pub ContractHolds : Runtime → Counters → CallArguments → CallResult → Type 0
ContractHolds s c (AddInitial m) r = add_initial'.Learnt tt (s, (c, (m, tt))) r (s, (c, (m, tt)))
ContractHolds s c (Begin h b) r = begin'.Learnt tt (s, (c, (h, (b, tt)))) r (s, (c, (h, (b, tt))))
ContractHolds s c Step r = step'.Learnt tt (s, (c, tt)) r (s, (c, tt))
ContractHolds s c (HandBack κs mask reply) r = hand_back'.Learnt κs (s, (c, (mask, (reply, tt)))) r (s, (c, (mask, (reply, tt))))

-- Each call is made with the runtime and the counters that the one before gave.
abbrev pub ContractsHold : Runtime → Counters → List CallMade → Type 0
ContractsHold s c [] = Unit {0}
ContractsHold s c (d ∷ ds) = ContractHolds s c d.asked d.gave × ContractsHold d.gave.state d.gave.counters ds

-- Which call of document 01 it is.
abbrev pub call_of : CallArguments → R.Call
call_of (AddInitial m) = R.AddInitial (message_of m)
call_of (Begin h b) = R.Begin (ticks_of h) b
call_of Step = R.Step
call_of (HandBack κs mask reply) = R.HandBack mask (emissions_of (length reply.now / 8) reply.now)

abbrev pub link_of : CallMade → Link
link_of d = record { call = call_of d.asked; answer = d.gave.answer; state = d.gave.state; counters = d.gave.counters }

-- "Each call, and each read after the list, gets the state and the counters that the call before it left": what these are, and what the four reads then answer.
module _ (r : BuildResult) (ls : List Link) where
  abbrev pub state : Runtime
  state = state_left r.state ls

  abbrev pub counters : Counters
  counters = counters_left r.counters ls

  abbrev pub gvt_after : Answer
  gvt_after = Read (Gvt (view_of state).gvt)

  -- "The counters read after the list equal these counts"
  abbrev pub counters_after : Answer
  counters_after = Read (counts (history r ls).entries)

  -- "Pending is what its read answers then"
  abbrev pub pending_after : Answer
  pending_after = Read (Pending (length (view_of state).pending))

  abbrev pub earliest_after : Answer
  earliest_after = Read (Earliest (least max_tick (map (λ (e : Event). e.tick) (view_of state).pending)))

  -- The functions of `reads`, called then.
  pub record ReadAfter : Type 0 where
    pub gvt : (a : Result Reading Refusal) → read_gvt'.Learnt tt (state, (counters, tt)) a (state, (counters, tt)) → read_of a ≡ gvt_after
    pub counted : (a : Result Reading Refusal) → read_counters'.Learnt tt (state, (counters, tt)) a (state, (counters, tt)) → read_of a ≡ counters_after
    pub pending : (a : Result Reading Refusal) → read_pending'.Learnt tt (state, (counters, tt)) a (state, (counters, tt)) → read_of a ≡ pending_after
    pub earliest : (a : Result Reading Refusal) → read_earliest'.Learnt tt (state, (counters, tt)) a (state, (counters, tt)) → read_of a ≡ earliest_after

  -- The reads of `host`, called then with a loan c of the counters, where P is known of the list.
  pub record HostReadAfter {M : Type 1} {𝓤 : Ura M} (𝓛 : Logic 𝓤) (mem : Memory → SProp 𝓤) (run : Routine → Fun 𝓤) (P : SProp 𝓤) : Type 1 where
    pub gvt : (κs : Lfts 1) (c : Bor Counters) → c.now ≡ counters → (a : Result Reading Refusal) → ent 𝓤 (conj 𝓤 P ((host_gvt.clauses 𝓛 mem run κs (state, (c, tt))).ensures tt a (state, (c, tt)))) (fact 𝓤 (read_of a ≡ gvt_after))
    pub counted : (κs : Lfts 1) (c : Bor Counters) → c.now ≡ counters → (a : Result Reading Refusal) → ent 𝓤 (conj 𝓤 P ((host_counters.clauses 𝓛 mem run κs (state, (c, tt))).ensures tt a (state, (c, tt)))) (fact 𝓤 (read_of a ≡ counters_after))
    pub pending : (κs : Lfts 1) (c : Bor Counters) → c.now ≡ counters → (a : Result Reading Refusal) → ent 𝓤 (conj 𝓤 P ((host_pending.clauses 𝓛 mem run κs (state, (c, tt))).ensures tt a (state, (c, tt)))) (fact 𝓤 (read_of a ≡ pending_after))
    pub earliest : (κs : Lfts 1) (c : Bor Counters) → c.now ≡ counters → (a : Result Reading Refusal) → ent 𝓤 (conj 𝓤 P ((host_earliest.clauses 𝓛 mem run κs (state, (c, tt))).ensures tt a (state, (c, tt)))) (fact 𝓤 (read_of a ≡ earliest_after))

-- No function of either face asks anything of its caller.
pub record NothingAsked {M : Type 1} {𝓤 : Ura M} (𝓛 : Logic 𝓤) (mem : Memory → SProp 𝓤) (run : Routine → Fun 𝓤) : Type 2 where
  pub build : AsksNothing 𝓤 build.ended (build.clauses 𝓛 mem run)
  pub add_initial : AsksNothing 𝓤 add_initial.ended (add_initial.clauses 𝓛 mem run)
  pub begin : AsksNothing 𝓤 begin.ended (begin.clauses 𝓛 mem run)
  pub step : AsksNothing 𝓤 step.ended (step.clauses 𝓛 mem run)
  pub hand_back : AsksNothing 𝓤 hand_back.ended (hand_back.clauses 𝓛 mem run)
  pub read_gvt : AsksNothing 𝓤 read_gvt.ended (read_gvt.clauses 𝓛 mem run)
  pub read_counters : AsksNothing 𝓤 read_counters.ended (read_counters.clauses 𝓛 mem run)
  pub read_pending : AsksNothing 𝓤 read_pending.ended (read_pending.clauses 𝓛 mem run)
  pub read_earliest : AsksNothing 𝓤 read_earliest.ended (read_earliest.clauses 𝓛 mem run)
  pub host_build : AsksNothing 𝓤 host_build.ended (host_build.clauses 𝓛 mem run)
  pub host_initial : AsksNothing 𝓤 host_initial.ended (host_initial.clauses 𝓛 mem run)
  pub host_begin : AsksNothing 𝓤 host_begin.ended (host_begin.clauses 𝓛 mem run)
  pub host_step : AsksNothing 𝓤 host_step.ended (host_step.clauses 𝓛 mem run)
  pub host_back : AsksNothing 𝓤 host_back.ended (host_back.clauses 𝓛 mem run)
  pub host_gvt : AsksNothing 𝓤 host_gvt.ended (host_gvt.clauses 𝓛 mem run)
  pub host_counters : AsksNothing 𝓤 host_counters.ended (host_counters.clauses 𝓛 mem run)
  pub host_pending : AsksNothing 𝓤 host_pending.ended (host_pending.clauses 𝓛 mem run)
  pub host_earliest : AsksNothing 𝓤 host_earliest.ended (host_earliest.clauses 𝓛 mem run)

-- Each function meets its contract, asks nothing, and what the contracts tell of a build that is not refused and of the calls of any list after it gives demand 3: of `runtime` and `reads`, and of `host`.
pub record ProgramTheorem (M : Type 1) : Type 2 where
  pub build_meets : build''.statement M
  pub add_initial_meets : add_initial''.statement M
  pub begin_meets : begin''.statement M
  pub step_meets : step''.statement M
  pub hand_back_meets : hand_back''.statement M
  pub read_gvt_meets : read_gvt''.statement M
  pub read_counters_meets : read_counters''.statement M
  pub read_pending_meets : read_pending''.statement M
  pub read_earliest_meets : read_earliest''.statement M
  pub host_build_meets : host_build''.statement M
  pub host_initial_meets : host_initial''.statement M
  pub host_begin_meets : host_begin''.statement M
  pub host_step_meets : host_step''.statement M
  pub host_back_meets : host_back''.statement M
  pub host_gvt_meets : host_gvt''.statement M
  pub host_counters_meets : host_counters''.statement M
  pub host_pending_meets : host_pending''.statement M
  pub host_earliest_meets : host_earliest''.statement M
  pub nothing_asked : (𝓤 : Ura M) (𝓛 : Logic 𝓤) (mem : Memory → SProp 𝓤) (run : Routine → Fun 𝓤) → NothingAsked 𝓛 mem run
  pub demand_3 : (κs : Lfts 2) (n : ℕ) (L : SimDuration) (ids : Bor (List ℕ)) (rows : Rows) (c : Counters) (r : BuildResult)
      → build'.Learnt κs (n, (L, (ids, (rows, (c, tt))))) r (n, (L, (ids, (rows, (c, tt)))))
      → answer_of r.answer ≡ Accepted
      → (ds : List CallMade) → ContractsHold r.state r.counters ds
      → Demand3OfProgram (setup n (duration_of L) ids.now rows.sources.now rows.counts.now rows.destinations.now (lookaheads_for rows.destinations.now rows.lookaheads.now)) r (map link_of ds) × ReadAfter r (map link_of ds)
  pub host_demand_3 : (𝓤 : Ura M) (𝓛 : Logic 𝓤) (mem : Memory → SProp 𝓤) (run : Routine → Fun 𝓤) (κs : Lfts 3) (n : ℕ) (L : SimDuration) (ids : Bor (List ℕ)) (rows : Rows) (c d : MutBor Counters) (r : HostBuildResult)
      → answer_of r.answer ≡ Accepted
      → (ds : List HostCallMade) → LentInTurn d.now ds
      → let b = build_result_of r d.now in
      let P = conj 𝓤 ((host_build.clauses 𝓛 mem run κs (n, (L, (ids, (rows, (c, tt)))))).ensures tt r (n, (L, (ids, (rows, (d, tt)))))) (AllEnsured 𝓛 mem run r.state ds) in
      ent 𝓤 P (fact 𝓤 (Demand3OfProgram (setup n (duration_of L) ids.now rows.sources.now rows.counts.now rows.destinations.now (lookaheads_for rows.destinations.now rows.lookaheads.now)) b (map Host.link_of ds))) × HostReadAfter b (map Host.link_of ds) 𝓛 mem run P
