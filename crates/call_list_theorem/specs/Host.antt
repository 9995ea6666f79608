-- A list of calls of `host`, each made with the runtime and the counters that the one before left. The counters are lent: a `RefT` is a loan, with the value that it refers to; the lifetimes κs play no part here.
use Rattle.std.specs.Prelude.{◌≡◌, List, [], ◌∷◌, ℕ}
use seplogic.Ra.Ura.{Ura}
use base.Logic.{SProp, emp}
use prog.Memory.{Memory}
use prog.Routine.{Routine}
use types.Logic.{Logic}
use contract.Lifetimes.{Lfts}
use contract.Monad.{Fun, conj}
use Rattle.std.specs.Borrow.{Bor, MutBor}
use Rattle.types.specs.declared.SimTime.{SimTime}
use Rattle.types.specs.Value.{ticks_of}
use Rattle.rules.specs.Calls as R
use Rattle.reply_words.specs.declared.Emission.{Emission}
use Rattle.host_hand_back.specs.Passes.{reply_of}
use Rattle.state.specs.declared.Runtime.{Runtime}
use Rattle.state.specs.declared.Counters.{Counters}
use Rattle.state.specs.declared.Message.{Message}
use Rattle.state.specs.View.{message_of}
use Rattle.host.specs.declared.HostCallResult.{HostCallResult}
use Rattle.host.specs.contracts.add_initial as add_initial
use Rattle.host.specs.contracts.begin as begin
use Rattle.host.specs.contracts.step as step
use Rattle.host.specs.contracts.hand_back as hand_back
use Rattle.call_list_theorem.specs.Links.{Link}

-- A call as `host` takes it: its arguments beside the runtime and the lent counters.
pub data HostCall : Type 0 where
  AddInitial : Lfts 1 → Message → HostCall
  Begin : Lfts 1 → SimTime → ℕ → HostCall
  Step : Lfts 1 → HostCall
  HandBack : Lfts 2 → ℕ → Bor (List Emission) → HostCall

-- A call, the loan of the counters at its entry, what it gave, and the loan at its exit.
pub record HostCallMade : Type 0 where
  pub asked : HostCall
  pub entry : MutBor Counters
  pub gave : HostCallResult
  pub exit : MutBor Counters

-- Each call is lent the counters that the one before left.
abbrev pub LentInTurn : Counters → List HostCallMade → Type 0
LentInTurn c [] = Unit {0}
LentInTurn c (d ∷ ds) = (d.entry.now ≡ c) × LentInTurn d.exit.now ds

module _ {M : Type 1} {𝓤 : Ura M} (𝓛 : Logic 𝓤) (mem : Memory → SProp 𝓤) (run : Routine → Fun 𝓤) where
  -- What the function's own contract ensures, called with the runtime s.
  abbrev pub ensured_by : HostCall → Runtime → MutBor Counters → HostCallResult → MutBor Counters → SProp 𝓤
  ensured_by (AddInitial κs m) s c r d = (add_initial.clauses 𝓛 mem run κs (s, (c, (m, tt)))).ensures tt r (s, (d, (m, tt)))
  ensured_by (Begin κs t b) s c r d = (begin.clauses 𝓛 mem run κs (s, (c, (t, (b, tt))))).ensures tt r (s, (d, (t, (b, tt))))
  ensured_by (Step κs) s c r d = (step.clauses 𝓛 mem run κs (s, (c, tt))).ensures tt r (s, (d, tt))
  ensured_by (HandBack κs mask reply) s c r d = (hand_back.clauses 𝓛 mem run κs (s, (c, (mask, (reply, tt))))).ensures tt r (s, (d, (mask, (reply, tt))))

  -- All of a list, from the runtime s on.
  abbrev pub AllEnsured : Runtime → List HostCallMade → SProp 𝓤
  AllEnsured s [] = emp 𝓤
  AllEnsured s (d ∷ ds) = conj 𝓤 (ensured_by d.asked s d.entry d.gave d.exit) (AllEnsured d.gave.state ds)

-- Which call of document 01 it is.
abbrev pub call_of : HostCall → R.Call
call_of (AddInitial κs m) = R.AddInitial (message_of m)
call_of (Begin κs t b) = R.Begin (ticks_of t) b
call_of (Step κs) = R.Step
call_of (HandBack κs mask reply) = R.HandBack mask (reply_of reply.now)

abbrev pub link_of : HostCallMade → Link
link_of d = record { call = call_of d.asked; answer = d.gave.answer; state = d.gave.state; counters = d.exit.now }
