-- The run is the history of its calls, and what it hands back.
use mathlib.Core.Path.{◌≡◌, refl, sym, ap, ◌∙◌}
use mathlib.Core.List.{List, [], ◌∷◌, ◌++◌}
use Prim.Native.Nat.{ℕ, zero, suc}
use Rattle.rules.specs.Base.{Maybe, none, some}
use Rattle.rules.specs.State.{Counters}
use Rattle.rules.specs.Answers.{Accepted}
use Rattle.rules.specs.Build.{build}
use Rattle.rules.specs.HandBack.{Emission}
use Rattle.rules.specs.Calls.{Call, HandBack, rule}
use Rattle.rules.specs.History.{History, empty_history, append_call, run_calls}
use Rattle.rules.proofs.Demand.{Sound, sound_built, demanded}
use Rattle.plan_file.specs.Plan.{Plan}
use Rattle.plan_rules.specs.Setup.{setup_of}
use Rattle.plan_rules.specs.Host.{due, left, next}
use Rattle.plan_rules.specs.Run.{carried, move, run, enough, ran}
use Rattle.plan_rules.specs.Laws.{answers_to, calls_of, Runs}
use Rattle.plan_rules.proofs.Ends.{good_run, sound_run}
use Rattle.plan_rules.proofs.Ready.{ready}
use Rattle.plan_rules.proofs.Kth.{due_answers, backed}

run_calls_on : (y : History) (ks : List Call) (k : Call) → run_calls y (ks ++ (k ∷ [])) ≡ run_calls (run_calls y ks) (k ∷ [])
unfolding run_calls
run_calls_on y [] k = refl
run_calls_on y (c ∷ ks) k = run_calls_on (append_call y c (rule y.now y.counters c)) ks k

told_carried : (z y : History) (m : Maybe Call) → y ≡ run_calls z (calls_of y.entries) → carried y m ≡ run_calls z (calls_of (carried y m).entries)
unfolding carried run_calls calls_of
told_carried z y none e = e
told_carried z y (some k) e = ap (λ (x : History). append_call x k (rule x.now x.counters k)) e ∙ sym (run_calls_on z (calls_of y.entries) k)

told_run : (p : Plan) (k : ℕ) → run p k ≡ run_calls (empty_history (setup_of p)) (calls_of (run p k).entries)
unfolding run move calls_of run_calls
told_run p zero = refl
told_run p (suc k) = told_carried (empty_history (setup_of p)) (run p k) (next p (run p k).entries) (told_run p k)

reply_run : (p : Plan) (k : ℕ) → Sound (setup_of p) (run p k) → (mask : ℕ) (xs : List Emission) → next p (run p k).entries ≡ some (HandBack mask xs) → (mask ≡ 0) × (xs ≡ answers_to p (run p k).entries (run p k).now.batch)
reply_run p k i mask xs h =
    let y = run p k in
    let b = backed p y.entries mask xs h in
    (b.mask, b.reply ∙ ap (due (left p y.entries)) i.tallied.kept.hand ∙ due_answers p y.entries y.now.batch i.shaped.held.order)

pub runs : (p : Plan) (c : Counters) → (build (setup_of p) c).answer ≡ Accepted → Runs p
unfolding ran
runs p c b =
    let i : (k : ℕ) → Sound (setup_of p) (run p k) = sound_run p (sound_built (setup_of p) c b) in
    record {
      told = told_run p;
      demanded = demanded (setup_of p) (run p (enough p)) (i (enough p));
      reply = λ k mask xs h. reply_run p k (i k) mask xs h;
      ready = λ k. ready p (run p k) (i k) (good_run p k);
    }
