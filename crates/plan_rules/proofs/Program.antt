-- 35,194 bytes are enough for every file.
use mathlib.Core.Path.{◌≡◌, refl, sym, ap, subst, ◌∙◌}
use mathlib.Core.Bool.{false}
use mathlib.Core.List.{List, []}
use Prim.Native.Nat.{ℕ, ◌≤◌, ◌<◌}
use native.Mathlib.Omega.{arith}
use lib.ListN.{length}
use Rattle.rules.specs.State.{zeros}
use Rattle.rules.specs.Answers.{Refusal, refusal_number, Accepted}
use Rattle.rules.specs.Build.{BuildOut, build}
use Rattle.rules.proofs.Tests.{by_bool, by_test}
use Rattle.plan_file.specs.Plan.{Plan}
use Rattle.plan_file.specs.Events.{event_count}
use Rattle.plan_file.specs.File.{Answer, Answer.refused, Answer.contents, ended, decode}
use Rattle.plan_file.specs.Format.{Got, Got.short, Got.got}
use Rattle.plan_file.proofs.Events.{few_events}
use Rattle.plan_rules.specs.Setup.{setup_of, too_long}
use Rattle.plan_rules.specs.Run.{ran}
use Rattle.plan_rules.specs.Listing
use Rattle.plan_rules.specs.Listing.{listing, Rehearsal, listed, rehearsed}
use Rattle.plan_rules.specs.Export.{Exported, written, exported, shown, printed_of, printed}
use Rattle.plan_rules.specs.Laws.{turned_away}
use Rattle.plan_rules.specs.Size.{Program}
use Rattle.plan_rules.proofs.RefusalNumbers as refusals
use Rattle.plan_rules.proofs.Size.{short_end, size_fits}
use Rattle.plan_rules.proofs.Exports.{by_build, rehearsed_refused, rehearsed_long, rehearsed_ran, exported_unread, exported_refused, exported_written}

-- A rehearsal is short, and refuses with nothing but 39.
abbrev Short : Rehearsal → Type 0
Short (Listing.refused k) = k ≡ 39
Short (listed l) = length l ≤ 35194

module _ (p : Plan) (few : event_count p ≤ 901) where
  short_refused : (r : Refusal) → build (setup_of p) zeros ≡ turned_away zeros r → Short (rehearsed p)
  short_refused r e = subst Short (sym (rehearsed_refused p r e)) (omega (arith, short_end (refusal_number r) 0 0 0 (refusals.numbered r).small (omega arith) (omega arith)))

  short_accepted : (build (setup_of p) zeros).answer ≡ Accepted → Short (rehearsed p)
  short_accepted e =
      by_bool (too_long p)
      (λ t. subst Short (sym (rehearsed_long p e t)) refl)
      (λ t. subst Short (sym (rehearsed_ran p e t)) (omega (arith, (size_fits p zeros e).fits t few)))

  short_rehearsal : Short (rehearsed p)
  short_rehearsal = by_build (setup_of p) zeros (λ (b : BuildOut). build (setup_of p) zeros ≡ b → Short (rehearsed p)) short_refused (λ e. short_accepted (ap (λ (b : BuildOut). b.answer) e)) refl

-- A file is refused by a number above 0.
abbrev Numbered : Answer → Type 0
Numbered (refused k) = 0 < k
Numbered (contents p) = Unit {0}

numbered_ended : (g : Got Plan) → Numbered (ended g)
unfolding ended
numbered_ended short = omega arith
numbered_ended (got p r) = by_test Numbered (λ _. by_test Numbered (λ _. tt) (λ _. omega arith)) (λ _. omega arith)

numbered : (file : List ℕ) → Numbered (decode file)
unfolding decode
numbered file = by_test Numbered (λ _. omega arith) (λ _. numbered_ended _)

printed_unread : (file : List ℕ) (k : ℕ) → decode file ≡ refused k → printed file ≡ []
unfolding printed printed_of
printed_unread file k e = rw e

printed_read : (file : List ℕ) (p : Plan) → decode file ≡ contents p → printed file ≡ shown (rehearsed p)
unfolding printed printed_of
printed_read file p e = rw e

module _ (file lent : List ℕ) where
  unread : (k : ℕ) → 0 < k → decode file ≡ refused k → Program file lent
  unread k h e =
      let n : printed file ≡ [] = printed_unread file k e in
      let x = exported_unread file lent k e in
      record {
        listing = λ p d. let z : ◌≡◌ {A = ℕ} 0 1 = cc in absurd (omega arith);
        rehearsal = λ p l d. let z : ◌≡◌ {A = ℕ} 0 1 = cc in absurd (omega arith);
        short = rw n (omega arith);
        room = λ p l d r m. let z : ◌≡◌ {A = ℕ} 0 1 = cc in absurd (omega arith);
        whole = λ m z. let i : (exported file lent).number ≡ k = ap (λ (o : Exported). o.number) x in absurd (omega arith);
        silent = λ m z. n;
      }

  module _ (p : Plan) (d : decode file ≡ contents p) (few : event_count p ≤ 901) where
    listing_short : (q : Plan) → decode file ≡ contents q → (build (setup_of q) zeros).answer ≡ Accepted → too_long q ≡ false → length (listing (ran q)) ≤ 35194
    listing_short q c b t =
        let w : p ≡ q = cc in
        let f : event_count q ≤ 901 = rw w at few in
        omega (arith, (size_fits q zeros b).fits t f)

    too_long_holds : rehearsed p ≡ Listing.refused 39 → Program file lent
    unfolding shown
    too_long_holds e =
        let n : printed file ≡ [] = printed_read file p d ∙ ap shown e in
        let x = exported_refused file lent p d 39 e in
        record {
          listing = listing_short;
          rehearsal = λ q l c r. let w : p ≡ q = cc in let z : ◌≡◌ {A = ℕ} 0 1 = cc in absurd (omega arith);
          short = rw n (omega arith);
          room = λ q l c r m. let w : p ≡ q = cc in let z : ◌≡◌ {A = ℕ} 0 1 = cc in absurd (omega arith);
          whole = λ m z. let i : (exported file lent).number ≡ 39 = ap (λ (o : Exported). o.number) x in absurd (omega arith);
          silent = λ m z. n;
        }

    all_listed : (l : List ℕ) → length l ≤ 35194 → rehearsed p ≡ listed l → Program file lent
    unfolding shown
    all_listed l h e =
        let n : printed file ≡ l = printed_read file p d ∙ ap shown e in
        record {
          listing = listing_short;
          rehearsal = λ q k c r. let w : p ≡ q = cc in let v : l ≡ k = cc in rw v at h;
          short = rw n (omega arith);
          room = λ q k c r m. let w : p ≡ q = cc in let v : l ≡ k = cc in let g : length k ≤ length lent = rw v at (fits m) in exported_written file lent q c k r g;
          whole = λ m z. exported_written file lent p d l e (fits m) ∙ ap (λ (k : List ℕ). written k lent) (sym n);
          silent = λ m z. absurd (z (ap (λ (o : Exported). o.number) (exported_written file lent p d l e (fits m))));
        }
      where
        fits : 35194 ≤ length lent → length l ≤ length lent
        fits m = omega arith

    read : Program file lent
    read = go (rehearsed p) refl (short_rehearsal p few)
      where
        go : (r : Rehearsal) → rehearsed p ≡ r → Short r → Program file lent
        go (Listing.refused k) e s = too_long_holds (e ∙ ap Listing.refused s)
        go (listed l) e s = all_listed l s e

  pub program : Program file lent
  program = go (decode file) refl (numbered file)
    where
      go : (a : Answer) → decode file ≡ a → Numbered a → Program file lent
      go (refused k) e n = unread k n e
      go (contents p) e n = read p e (few_events file p e)
