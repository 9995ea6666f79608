-- What the check proves of each function is what a link of the theorem holds.
use mathlib.Core.Path.{◌≡◌, refl, ap, subst, ◌∙◌}
use mathlib.Core.List.{List, [], ◌∷◌, map}
use seplogic.Ra.Ura.{Ura}
use base.Logic.{SProp, ent, emp, id⊢, via}
use prog.Memory.{Memory}
use prog.Routine.{Routine}
use types.Logic.{Logic}
use contract.Monad.{Fun, fact, fact_i, fact_use, conj, conj_l, conj_r}
use denote.Ref.{Bor, MutBor}
use Rattle.state.specs.declared.Runtime.{Runtime}
use Rattle.state.specs.declared.Counters.{Counters}
use Rattle.rules.specs.Rows.{Out}
use Rattle.rules.specs.Answers.{Answer}
use Rattle.rules.specs.Build.{Setup}
use Rattle.rules.specs.State as R
use Rattle.rules.specs.State.{State}
use Rattle.runtime.specs.declared.BuildResult.{BuildResult}
use Rattle.runtime.specs.declared.CallResult.{CallResult}
use Rattle.runtime.specs.Executes.{Executes}
use Rattle.runtime.specs.Builds.{Builds}
use Rattle.std.specs.Prelude.{Result}
use Rattle.state.specs.declared.Refusal.{Refusal}
use Rattle.reads.specs.declared.Reading.{Reading}
use Rattle.reads.specs.Reads.{Reads, read_of}
use Rattle.state.specs.View.{view_of, counters_of}
use Rattle.build.specs.Checks.{answer_of}
use Rattle.rules.specs.Answers.{Accepted}
use Rattle.host.specs.declared.HostCallResult.{HostCallResult}
use Rattle.runtime.proofs.build.Met as build-met
use Rattle.runtime.proofs.add_initial.Met as initial-met
use Rattle.runtime.proofs.begin.Met as begin-met
use Rattle.runtime.proofs.step.Met as step-met
use Rattle.runtime.proofs.hand_back.Met as back-met
use Rattle.reads.proofs.read_gvt.Met as gvt-met
use Rattle.reads.proofs.read_counters.Met as counters-met
use Rattle.reads.proofs.read_pending.Met as pending-met
use Rattle.reads.proofs.read_earliest.Met as earliest-met
use Rattle.host.proofs.build.Met as host-build-met
use Rattle.host.proofs.add_initial.Met as host-initial-met
use Rattle.host.proofs.begin.Met as host-begin-met
use Rattle.host.proofs.step.Met as host-step-met
use Rattle.host.proofs.hand_back.Met as host-back-met
use Rattle.host.proofs.read_gvt.Met as host-gvt-met
use Rattle.host.proofs.read_counters.Met as host-counters-met
use Rattle.host.proofs.read_pending.Met as host-pending-met
use Rattle.host.proofs.read_earliest.Met as host-earliest-met
use Rattle.call_list_theorem.specs.Links.{Link, Executed}
use Rattle.call_list_theorem.specs.Demand3.{Demand3OfProgram}
use Rattle.call_list_theorem.specs.Host as Host
use Rattle.call_list_theorem.specs.Host.{HostCall, HostCallMade, LentInTurn, ensured_by, AllEnsured}
use Rattle.call_list_theorem.specs.Theorem.{CallArguments, AddInitial, Begin, Step, HandBack, CallMade, ContractHolds, ContractsHold, call_of, link_of, state, counters, ReadAfter, HostReadAfter, ProgramTheorem}
use Rattle.call_list_theorem.proofs.Demanded.{demand_3_of_the_program}

carries : (s : Runtime) (c : Counters) (k : CallArguments) (r : CallResult) → ContractHolds s c k r → Executes (call_of k) s c r.answer r.state r.counters
carries s c (AddInitial m) r l = l
carries s c (Begin h b) r l = l
carries s c Step r l = l
carries s c (HandBack κs mask reply) r l = l

carried : (s : Runtime) (c : Counters) (ds : List CallMade) → ContractsHold s c ds → Executed s c (map link_of ds)
carried s c [] i = tt
carried s c (d ∷ ds) i = (carries s c d.asked d.gave i.0, carried d.gave.state d.gave.counters ds i.1)

-- A read of what the list left answers what its rule does.
read_as : {f : State → R.Counters → Out} (s : Runtime) (c : Counters) (x : Result Reading Refusal) → Reads f s c x → {a : Answer} → (f (view_of s) (counters_of c)).answer ≡ a → read_of x ≡ a
read_as s c x l e = ap (λ (o : Out). o.answer) l.gives ∙ e

read_after : (a : Setup) (r : BuildResult) (ls : List Link) → Demand3OfProgram a r ls → ReadAfter r ls
read_after a r ls p = record {
  gvt = λ x l. read_as _ _ x l p.gvt;
  counted = λ x l. read_as _ _ x l p.counters;
  pending = λ x l. read_as _ _ x l p.pending;
  earliest = λ x l. read_as _ _ x l p.earliest;
}

-- The same of `host`: what its contracts ensure are facts.
module _ {M : Type 1} {𝓤 : Ura M} (𝓛 : Logic 𝓤) (mem : Memory → SProp 𝓤) (run : Routine → Fun 𝓤) where
  executes : (k : HostCall) (s : Runtime) (c : MutBor Counters) (r : HostCallResult) (d : MutBor Counters) → ent 𝓤 (ensured_by 𝓛 mem run k s c r d) (fact 𝓤 (Executes (Host.call_of k) s c.now r.answer r.state d.now))
  executes (Host.AddInitial κs m) s c r d = id⊢ 𝓤 _
  executes (Host.Begin κs t b) s c r d = id⊢ 𝓤 _
  executes (Host.Step κs) s c r d = id⊢ 𝓤 _
  executes (Host.HandBack κs mask reply) s c r d = id⊢ 𝓤 _

  all_executed : (s : Runtime) (c : Counters) (ds : List HostCallMade) → LentInTurn c ds → ent 𝓤 (AllEnsured 𝓛 mem run s ds) (fact 𝓤 (Executed s c (map Host.link_of ds)))
  all_executed s c [] t = fact_i 𝓤 _ (emp 𝓤) tt
  all_executed s c (d ∷ ds) t =
      let P = ensured_by 𝓛 mem run d.asked s d.entry d.gave d.exit in
      let Q = AllEnsured 𝓛 mem run d.gave.state ds in
      fact_use 𝓤 _ (via 𝓤 P (conj_l 𝓤 P Q) (executes d.asked s d.entry d.gave d.exit)) (λ e.
      fact_use 𝓤 _ (via 𝓤 Q (conj_r 𝓤 P Q) (all_executed d.gave.state d.exit.now ds t.1)) (λ es.
      fact_i 𝓤 _ (conj 𝓤 P Q) (subst (λ (x : Counters). Executes (Host.call_of d.asked) s x d.gave.answer d.gave.state d.exit.now) t.0 e, es)))

  module _ (a : Setup) (c : Counters) (b : BuildResult) (accepts : answer_of b.answer ≡ Accepted) (ds : List HostCallMade) (t : LentInTurn b.counters ds) where
    abbrev ls : List Link
    ls = map Host.link_of ds

    abbrev P : SProp 𝓤
    P = conj 𝓤 (fact 𝓤 (Builds a c b)) (AllEnsured 𝓛 mem run b.state ds)

    host_demanded : ent 𝓤 P (fact 𝓤 (Demand3OfProgram a b ls))
    host_demanded =
        let Q = AllEnsured 𝓛 mem run b.state ds in
        fact_use 𝓤 _ (conj_l 𝓤 (fact 𝓤 (Builds a c b)) Q) (λ x.
        fact_use 𝓤 _ (via 𝓤 Q (conj_r 𝓤 (fact 𝓤 (Builds a c b)) Q) (all_executed b.state b.counters ds t)) (λ i.
        fact_i 𝓤 _ P (demand_3_of_the_program a c b x accepts ls i)))

    -- A read whose rule then answers y.
    host_read : (f : State → R.Counters → Out) (y : Answer) → (Demand3OfProgram a b ls → (f (view_of (state b ls)) (counters_of (counters b ls))).answer ≡ y)
        → (d : Bor Counters) → d.now ≡ counters b ls → (x : Result Reading Refusal) → ent 𝓤 (conj 𝓤 P (fact 𝓤 (Reads f (state b ls) d.now x))) (fact 𝓤 (read_of x ≡ y))
    host_read f y p d e x =
        let Q = fact 𝓤 (Reads f (state b ls) d.now x) in
        fact_use 𝓤 _ (via 𝓤 P (conj_l 𝓤 P Q) host_demanded) (λ z.
        fact_use 𝓤 _ (conj_r 𝓤 P Q) (λ l.
        fact_i 𝓤 _ (conj 𝓤 P Q) (read_as (state b ls) (counters b ls) x (subst (λ (u : Counters). Reads f (state b ls) u x) e l) (p z))))

    host_read_after : HostReadAfter b ls 𝓛 mem run P
    host_read_after = record {
      gvt = λ κs d e x. host_read _ _ (λ z. z.gvt) d e x;
      counted = λ κs d e x. host_read _ _ (λ z. z.counters) d e x;
      pending = λ κs d e x. host_read _ _ (λ z. z.pending) d e x;
      earliest = λ κs d e x. host_read _ _ (λ z. z.earliest) d e x;
    }

pub program_theorem : {M : Type 1} → ProgramTheorem M
program_theorem = record {
  build_meets = build-met.met;
  add_initial_meets = initial-met.met;
  begin_meets = begin-met.met;
  step_meets = step-met.met;
  hand_back_meets = back-met.met;
  read_gvt_meets = gvt-met.met;
  read_counters_meets = counters-met.met;
  read_pending_meets = pending-met.met;
  read_earliest_meets = earliest-met.met;
  host_build_meets = host-build-met.met;
  host_initial_meets = host-initial-met.met;
  host_begin_meets = host-begin-met.met;
  host_step_meets = host-step-met.met;
  host_back_meets = host-back-met.met;
  host_gvt_meets = host-gvt-met.met;
  host_counters_meets = host-counters-met.met;
  host_pending_meets = host-pending-met.met;
  host_earliest_meets = host-earliest-met.met;
  nothing_asked = λ 𝓤 𝓛 mem run. record {
    build = λ κs a g. refl;
    add_initial = λ κs a g. refl;
    begin = λ κs a g. refl;
    step = λ κs a g. refl;
    hand_back = λ κs a g. refl;
    read_gvt = λ κs a g. refl;
    read_counters = λ κs a g. refl;
    read_pending = λ κs a g. refl;
    read_earliest = λ κs a g. refl;
    host_build = λ κs a g. refl;
    host_initial = λ κs a g. refl;
    host_begin = λ κs a g. refl;
    host_step = λ κs a g. refl;
    host_back = λ κs a g. refl;
    host_gvt = λ κs a g. refl;
    host_counters = λ κs a g. refl;
    host_pending = λ κs a g. refl;
    host_earliest = λ κs a g. refl;
  };
  demand_3 = λ κs n L ids rows c r b e xs i.
      let p = demand_3_of_the_program _ c r b e (map link_of xs) (carried r.state r.counters xs i) in
      (p, read_after _ r (map link_of xs) p);
  host_demand_3 = λ 𝓤 𝓛 mem run κs n L ids rows c d r e xs t.
      (host_demanded 𝓛 mem run _ c.now _ e xs t, host_read_after 𝓛 mem run _ c.now _ e xs t);
}
