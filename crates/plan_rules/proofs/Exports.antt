-- What is listed and what is exported, case by case; and that 35,194 bytes are enough.
use mathlib.Core.Path.{◌≡◌, refl, ap, ◌∙◌}
use mathlib.Core.Bool.{true, false}
use mathlib.Core.List.{List}
use Prim.Native.Nat.{ℕ, ◌≤◌, ◌<◌}
use native.Mathlib.Omega.{arith}
use lib.ListN.{length}
use borrow.Author.Tests.{le-leb, lt-leb}
use Rattle.rules.specs.Base.{if◌then◌otherwise◌, some}
use Rattle.rules.specs.State.{Counters, zeros}
use Rattle.rules.specs.Answers.{Refusal, refusal_number, Accepted, number}
use Rattle.rules.specs.Rows.{Row}
use Rattle.rules.specs.Build.{Setup, BuildOut, build_rows, built, build}
use Rattle.rules.proofs.Lists.{all_of}
use Rattle.rules.proofs.Table.{by_firsts, firsts_all}
use Rattle.plan_file.specs.Plan.{Plan}
use Rattle.plan_file.specs.File.{Answer.refused, Answer.contents, decode}
use Rattle.plan_rules.specs.Setup.{setup_of, too_long}
use Rattle.plan_rules.specs.Run.{ran}
use Rattle.plan_rules.specs.Listing
use Rattle.plan_rules.specs.Listing.{end_line, listing, Rehearsal, listed, once_built, rehearsed}
use Rattle.plan_rules.specs.Export.{written, cleared, untouched, handed_over, exported_of, exported}
use Rattle.plan_rules.specs.Laws.{turned_away}

-- Build either turns away or makes.
pub by_build : (a : Setup) (c : Counters) (P : BuildOut → Type 0) → ((r : Refusal) → P (turned_away c r)) → P (record { answer = Accepted; made = some (built a); counters = zeros }) → P (build a c)
unfolding build
by_build a c P f g = by_firsts P (build_rows a) _ _ (firsts_all (λ r. P (turned_away c r)) (build_rows a) (all_of (λ (r : Row). P (turned_away c r.refusal)) (λ r. f r.refusal) (build_rows a))) (λ _. g)

pub accepted_made : (a : Setup) (c : Counters) → (build a c).answer ≡ Accepted → (build a c).made ≡ some (built a)
accepted_made a c = by_build a c (λ (b : BuildOut). b.answer ≡ Accepted → b.made ≡ some (built a)) (λ r e. let z : ◌≡◌ {A = ℕ} 0 1 = cc in absurd (omega arith)) (λ e. refl)

-- The listing of a plan.
module _ (p : Plan) where
  pub rehearsed_refused : (r : Refusal) → build (setup_of p) zeros ≡ turned_away zeros r → rehearsed p ≡ listed (end_line (refusal_number r) 0 0 0)
  unfolding rehearsed once_built number
  rehearsed_refused r e = ap (λ (b : BuildOut). once_built p (number b.answer) b.made) e

  rehearsed_made : (build (setup_of p) zeros).answer ≡ Accepted → rehearsed p ≡ (if too_long p then Listing.refused 39 otherwise listed (listing (ran p)))
  unfolding rehearsed once_built
  rehearsed_made e = ap (once_built p (number (build (setup_of p) zeros).answer)) (accepted_made (setup_of p) zeros e)

  pub rehearsed_long : (build (setup_of p) zeros).answer ≡ Accepted → too_long p ≡ true → rehearsed p ≡ Listing.refused 39
  unfolding if◌then◌otherwise◌
  rehearsed_long e t = rehearsed_made e ∙ rw t

  pub rehearsed_ran : (build (setup_of p) zeros).answer ≡ Accepted → too_long p ≡ false → rehearsed p ≡ listed (listing (ran p))
  unfolding if◌then◌otherwise◌
  rehearsed_ran e t = rehearsed_made e ∙ rw t

-- What is exported.
module _ (file lent : List ℕ) where
  pub exported_unread : (k : ℕ) → decode file ≡ refused k → exported file lent ≡ untouched k lent
  unfolding exported exported_of
  exported_unread k e = rw e

  module _ (p : Plan) (d : decode file ≡ contents p) where
    exported_read : exported file lent ≡ handed_over (rehearsed p) lent
    unfolding exported exported_of
    exported_read = rw d

    pub exported_refused : (k : ℕ) → rehearsed p ≡ Listing.refused k → exported file lent ≡ cleared k lent
    unfolding handed_over
    exported_refused k e = exported_read ∙ ap (λ (r : Rehearsal). handed_over r lent) e

    pub exported_written : (l : List ℕ) → rehearsed p ≡ listed l → length l ≤ length lent → exported file lent ≡ written l lent
    unfolding handed_over if◌then◌otherwise◌
    exported_written l e h = exported_read ∙ ap (λ (r : Rehearsal). handed_over r lent) e ∙ rw (le-leb (length l) (length lent) h)

    pub exported_short : (l : List ℕ) → rehearsed p ≡ listed l → length lent < length l → exported file lent ≡ cleared 39 lent
    unfolding handed_over if◌then◌otherwise◌
    exported_short l e h = exported_read ∙ ap (λ (r : Rehearsal). handed_over r lent) e ∙ rw (lt-leb (length l) (length lent) h)
