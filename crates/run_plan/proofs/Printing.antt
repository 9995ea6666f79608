-- What the program prints is the listing: it ends with a line feed, so the zeros behind it are told from it.
use mathlib.Core.Path.{◌≡◌, refl, sym, ap, subst, ◌∙◌}
use mathlib.Core.Bool.{Bool, true, false}
use mathlib.Core.List.{List, [], ◌∷◌, ◌++◌, append_assoc}
use Prim.Native.Nat.{ℕ, zero, suc, ◌+◌, ◌-◌, ◌≤◌, ◌<◌}
use native.Mathlib.Omega.{arith}
use lib.Dec.{leb}
use lib.ListN.{length, get_or, take, replicate, length-append}
use lib.Seq.{take_at}
use borrow.Author.Tests.{leb-true, leb-false}
use Rattle.rules.specs.Base.{if◌then◌otherwise◌, Maybe, none, some}
use Rattle.rules.specs.State.{State}
use Rattle.rules.proofs.Tests.{by_bool}
use Rattle.plan_file.specs.Plan.{Plan}
use Rattle.plan_file.specs.File
use Rattle.plan_file.specs.File.{decode}
use Rattle.plan_rules.specs.Setup.{too_long}
use Rattle.plan_rules.specs.Run.{ran}
use Rattle.plan_rules.specs.Text.{decimal, hexadecimal}
use Rattle.plan_rules.specs.Listing.{listed, refused, handled_lines, end_line, last_number, listing, once_built, rehearsed}
use Rattle.plan_rules.specs.Export.{Exported, exported, shown, printed_of, printed}
use Rattle.plan_rules.proofs.Program.{program}
use Rattle.dorrezubi.specs.Exports.{Exports}
use Rattle.run_plan.specs.Prints.{EndsAt}

-- A text that is empty or ends with a line feed.
data Ended (l : List ℕ) : Type 0 where
  empty : l ≡ [] → Ended l
  fed : (front : List ℕ) → l ≡ front ++ (10 ∷ []) → Ended l

ended_append : (xs : List ℕ) (front : List ℕ) → Ended (xs ++ (front ++ (10 ∷ [])))
ended_append xs front = fed (xs ++ front) (sym (append_assoc xs front (10 ∷ [])))

end_front : ℕ → ℕ → ℕ → ℕ → List ℕ
end_front k g r n = 101 ∷ 110 ∷ 100 ∷ 32 ∷ decimal k ++ (32 ∷ hexadecimal 32 g ++ (32 ∷ decimal r ++ (32 ∷ decimal n)))

line_ends : (k g r n : ℕ) → end_line k g r n ≡ end_front k g r n ++ (10 ∷ [])
unfolding end_line end_front
line_ends k g r n = simp append_assoc

shown_ends : (p : Plan) (k : ℕ) (m : Maybe State) → Ended (shown (once_built p k m))
unfolding once_built shown listing if◌then◌otherwise◌
shown_ends p k none = subst Ended (sym (line_ends k 0 0 0)) (fed (end_front k 0 0 0) refl)
shown_ends p k (some s) = go (too_long p)
  where
    go : (t : Bool) → Ended (shown (if t then refused 39 otherwise listed (handled_lines (ran p).entries ++ end_line (last_number (ran p).entries) (ran p).now.gvt (ran p).counters.rounds (ran p).counters.null_messages)))
    go true = empty refl
    go false = subst (λ (l : List ℕ). Ended (handled_lines (ran p).entries ++ l)) (sym (line_ends _ _ _ _)) (ended_append (handled_lines (ran p).entries) (end_front _ _ _ _))

printed_of_holds : (a : File.Answer) → Ended (printed_of a)
unfolding printed_of rehearsed
printed_of_holds (File.refused k) = empty refl
printed_of_holds (File.contents p) = shown_ends p _ _

printed_ends : (file : List ℕ) → Ended (printed file)
unfolding printed
printed_ends file = printed_of_holds (decode file)

-- The text is what stands before the zeros.
zero_behind : (l : List ℕ) (z i : ℕ) → length l ≤ i → get_or (l ++ replicate z 0) i 0 ≡ 0
zero_behind [] zero i h = refl
zero_behind [] (suc z) zero h = refl
zero_behind [] (suc z) (suc i) h = zero_behind [] z i (omega arith)
zero_behind (x ∷ l) z zero h = absurd (omega arith)
zero_behind (x ∷ l) z (suc i) h = zero_behind l z i (omega arith)

last_there : (front : List ℕ) (behind : List ℕ) → get_or ((front ++ (10 ∷ [])) ++ behind) (length front) 0 ≡ 10
last_there [] behind = refl
last_there (x ∷ front) behind = last_there front behind

ends_there : (l : List ℕ) (z n : ℕ) → Ended l → EndsAt (l ++ replicate z 0) n → n ≡ length l
ends_there l z n (empty e) i =
    by_bool (leb n 0)
    (λ t. let f = leb-true n 0 t in let y : length l ≡ 0 = ap length e in omega arith)
    (λ t. let f = leb-false n 0 t in let y : length l ≡ 0 = ap length e in absurd (i.last (n - 1) (omega arith) (zero_behind l z (n - 1) (omega arith))))
ends_there l z n (fed front w) i =
    let m : length l ≡ length front + 1 = ap length w ∙ length-append front (10 ∷ []) in
    let there : get_or (l ++ replicate z 0) (length front) 0 ≡ 10 = ap (λ (x : List ℕ). get_or (x ++ replicate z 0) (length front) 0) w ∙ last_there front (replicate z 0) in
    by_bool (leb n (length front))
    (λ t. let y = i.behind (length front) (leb-true n (length front) t) in absurd (omega arith))
    (λ t. let f = leb-false n (length front) t in
    by_bool (leb n (length l))
    (λ u. let g = leb-true n (length l) u in omega arith)
    (λ u. let g = leb-false n (length l) u in absurd (i.last (n - 1) (omega arith) (zero_behind l z (n - 1) (omega arith)))))

module _ (file old new : List ℕ) (r : ℕ) (room : length old ≡ 35194) (e : Exports file old new r) where
  number_is : (exported file old).number ≡ r
  number_is = ap (λ (x : Exported). x.number) (sym e)

  pub prints_nothing : 0 < r → take 0 new ≡ printed file
  prints_nothing l = sym ((program file old).silent (omega arith) (λ z. absurd (omega (arith, number_is))))

  pub prints_listing : r ≤ 0 → (n : ℕ) → EndsAt new n → take n new ≡ printed file
  prints_listing l n i =
      let x = (program file old).whole (omega arith) (let y : (exported file old).number ≡ 0 = omega (arith, number_is) in y) in
      let s : new ≡ printed file ++ replicate (length old - length (printed file)) 0 = ap (λ (x : Exported). x.slice) (e ∙ x) in
      let k = ends_there (printed file) (length old - length (printed file)) n (printed_ends file) (subst (λ (t : List ℕ). EndsAt t n) s i) in
      ap (take n) s ∙ take_at (printed file) _ n (sym k)
