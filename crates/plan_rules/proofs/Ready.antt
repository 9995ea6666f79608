-- Before each call the state is as the call wants it.
use mathlib.Core.Path.{◌≡◌, refl, sym, subst, ◌∙◌}
use mathlib.Core.Bool.{Bool, true, false}
use mathlib.Core.List.{List, [], ◌∷◌}
use Prim.Native.Nat.{ℕ}
use native.Mathlib.Omega.{arith}
use lib.Dec.{eqb}
use lib.ListN.{drop}
use borrow.Author.Tests.{eqb-true, eqb-false}
use Rattle.rules.specs.Base.{if◌then◌otherwise◌, Maybe, none, some}
use Rattle.rules.specs.State.{Message}
use Rattle.rules.specs.Answers.{Answer, Accepted, Batch, Advanced, Finished, Committed, Read, Planned, Refused}
use Rattle.rules.specs.Calls.{Call, AddInitial, Begin, Step, HandBack}
use Rattle.rules.specs.History.{Entry, History, is_initial, initials}
use Rattle.rules.proofs.Tests.{by_bool}
use Rattle.rules.proofs.Counts.{entry_of}
use Rattle.rules.proofs.Shape.{passes_11}
use Rattle.rules.proofs.Demand.{Sound}
use Rattle.plan_file.specs.Plan.{Plan}
use Rattle.plan_rules.specs.Setup.{setup_of}
use Rattle.plan_rules.specs.Host.{or_begin, opening, after, next}
use Rattle.plan_rules.specs.Laws.{Ready}
use Rattle.plan_rules.proofs.Fit.{extra, extra_of, begun, begun_most}
use Rattle.plan_rules.proofs.Moves.{Going, Good, still_healthy}
use Rattle.plan_rules.proofs.Ends.{extra_next}

-- What the next call says of the last entry.
abbrev pub Kind : List Entry → Maybe Call → Type 0
Kind es none = Unit {0}
Kind es (some (AddInitial m)) = (begun es ≡ 0) × (extra_of es ≡ 0)
Kind es (some (Begin h b)) = (begun es ≡ 0) × (extra_of es ≡ 0)
Kind es (some Step) = extra_of es ≡ 0
Kind es (some (HandBack mask xs)) = extra_of es ≡ 1

kind_opening : (p : Plan) (es : List Entry) (ms : List Message) → begun es ≡ 0 → extra_of es ≡ 0 → Kind es (some (or_begin p ms))
unfolding or_begin
kind_opening p es [] b z = (b, z)
kind_opening p es (m ∷ ms) b z = (b, z)

kind_after : (p : Plan) (k : Call) (a : Answer) (r : ℕ) (es : List Entry) → Kind (entry_of k a r ∷ es) (after p (entry_of k a r ∷ es) k a)
unfolding after opening extra_of extra begun if◌then◌otherwise◌
kind_after p k Accepted r es = go (is_initial k) refl
  where
    go : (t : Bool) → is_initial k ≡ t → Kind (entry_of k Accepted r ∷ es) (some (if t then or_begin p (drop (initials (entry_of k Accepted r ∷ es)) p.initial) otherwise Step))
    go true e = kind_opening p (entry_of k Accepted r ∷ es) _ (rw e) refl
    go false e = refl
kind_after p k (Batch bs g) r es = refl
kind_after p k (Advanced g) r es = refl
kind_after p k (Finished g) r es = tt
kind_after p k (Committed g) r es = refl
kind_after p k (Read x) r es = tt
kind_after p k (Planned j) r es = tt
kind_after p k (Refused x) r es = tt

kind : (p : Plan) (es : List Entry) → Kind es (next p es)
unfolding next opening extra_of begun
kind p [] = kind_opening p [] _ refl refl
kind p (e ∷ es) = kind_after p e.call e.answer e.raises es

pub kind_of : (p : Plan) (es : List Entry) (k : Call) → next p es ≡ some k → Kind es (some k)
kind_of p es k e = subst (Kind es) e (kind p es)

no_step : {C : Type 0} (p : Plan) (ms : List Message) → some (or_begin p ms) ≡ some Step → C
unfolding or_begin
no_step p [] h = let z : ◌≡◌ {A = ℕ} 0 1 = cc in absurd (omega arith)
no_step p (m ∷ ms) h = let z : ◌≡◌ {A = ℕ} 0 1 = cc in absurd (omega arith)

going : (p : Plan) (y : History) → Good p y → next p y.entries ≡ some Step → Going y.now
unfolding opening
going p y i e =
    let z = kind_of p y.entries Step e in
    by_bool (eqb (begun y.entries) 0)
    (λ u. no_step p _ (sym (i.phase.first (eqb-true (begun y.entries) 0 u) z) ∙ e))
    (λ u. let m = eqb-false (begun y.entries) 0 u in i.phase.stepping (omega (arith, begun_most y.entries)) z)

pub ready : (p : Plan) (y : History) → Sound (setup_of p) y → Good p y → Ready p y
ready p y s i = record {
  passes = passes_11 y.now s.shaped;
  healthy = λ k e. still_healthy p y i (extra_next p y.entries k e);
  adding = λ m e. let k = kind_of p y.entries (AddInitial m) e in (i.phase.adding k.0 k.1).opened;
  beginning = λ h b e. let k = kind_of p y.entries (Begin h b) e in let w = i.phase.adding k.0 k.1 in (w.idle, w.first_run);
  stepping = λ e. let g = going p y i e in (g.open_run, g.empty);
  handing = λ mask xs e. let h = i.phase.handing (kind_of p y.entries (HandBack mask xs) e) in (h.open_run, h.some_batch);
}
