-- Which rows of build can refuse a plan.
use mathlib.Core.Path.{◌≡◌, refl, sym, subst, ◌∙◌}
use mathlib.Core.Bool.{true, false, ◌||◌}
use mathlib.Core.List.{List, [], ◌∷◌}
use Prim.Native.Nat.{ℕ, ◌+◌}
use native.Mathlib.Omega.{arith}
use lib.Dec.{ltb}
use lib.ListN.{take, drop}
use borrow.Author.Tests.{le-ltb}
use Rattle.rules.specs.Base.{if◌then◌otherwise◌, up_to, any, member, some}
use Rattle.rules.specs.State.{Counters, zeros}
use Rattle.rules.specs.Answers.{Accepted, refusal_number, number}
use Rattle.rules.specs.Rows.{Row, unless}
use Rattle.rules.specs.Build.{Target, BuildOut, missing, unexpected, targets, destination_rows, topology_rows, built, build}
use Rattle.rules.proofs.Lists.{All, all_append}
use Rattle.rules.proofs.Table.{by_firsts, firsts_all}
use Rattle.plan_file.specs.Plan.{Plan}
use Rattle.plan_rules.specs.Setup.{setup_of}
use Rattle.plan_rules.specs.Laws.{turned_away, plan_rows, Builds}
use Rattle.plan_rules.specs.Numbers.{build_numbers, BuildNumbers}
use Rattle.plan_rules.proofs.Setups.{sets}

no_four : (a b : ℕ) → a + b ≡ 0 → ltb 0 a || ltb 0 b ≡ false
no_four a b h = rw (le-ltb 0 a (omega arith), le-ltb 0 b (omega arith))

module _ (p : Plan) (c : Counters) where
  table : build (setup_of p) c ≡ unless (plan_rows p) (turned_away c) (record { answer = Accepted; made = some (built (setup_of p)); counters = zeros })
  unfolding build setup_of unless if◌then◌otherwise◌
  table =
      let i = sets p in
      rw (i.three, no_four (missing (up_to p.n) (up_to p.n)) (unexpected p.n (up_to p.n)) i.four, i.five, i.six)

  pub builds : Builds p c
  unfolding unless if◌then◌otherwise◌
  builds = record { table = table; one = λ a. table ∙ rw a; two = λ a b. table ∙ rw (a, b); five = λ a b d. table ∙ rw (a, b, d) }

-- Which numbers build answers with.
unfoldable Listed : BuildOut → Type 0
Listed o = member (number o.answer) build_numbers ≡ true

module _ (c : Counters) (n : ℕ) where
  abbrev Each : List Row → Type 0
  Each rs = All (λ (r : Row). Listed (turned_away c r.refusal)) rs

  listed_destinations : (p : ℕ) (seen : List ℕ) (ts : List Target) → Each (destination_rows n p seen ts)
  unfolding destination_rows Listed member any number refusal_number
  listed_destinations p seen [] = tt
  listed_destinations p seen (t ∷ ts) = (refl, (refl, (refl, (refl, listed_destinations p (t.destination ∷ seen) ts))))

  listed_topology : (sources counts : List ℕ) (ts : List Target) → Each (topology_rows n sources counts ts)
  unfolding topology_rows Listed member any number refusal_number
  listed_topology [] counts ts = tt
  listed_topology (p ∷ sources) [] ts = tt
  listed_topology (p ∷ sources) (k ∷ counts) ts = (refl, all_append (λ (r : Row). Listed (turned_away c r.refusal)) (destination_rows n p [] (take k ts)) _ (listed_destinations p [] (take k ts)) (listed_topology sources counts (drop k ts)))

abbrev edge_targets : Plan → List Target
edge_targets p = targets (setup_of p).destinations (setup_of p).lookaheads

listed_build : (p : Plan) (c : Counters) → Listed (unless (plan_rows p) (turned_away c) (record { answer = Accepted; made = some (built (setup_of p)); counters = zeros }))
unfolding Listed member any number refusal_number
listed_build p c =
    by_firsts Listed (plan_rows p) _ _
    ((λ _. refl), λ _. ((λ _. refl), λ _. ((λ _. refl), λ _. firsts_all (λ r. Listed (turned_away c r)) (topology_rows p.n (setup_of p).sources (setup_of p).counts (edge_targets p)) (listed_topology c p.n (setup_of p).sources (setup_of p).counts (edge_targets p)))))
    (λ _. refl)

pub build_numbers_holds : (p : Plan) (c : Counters) → BuildNumbers p c
unfolding Listed
build_numbers_holds p c = record { among = subst (λ (o : BuildOut). member (number o.answer) build_numbers ≡ true) (sym (builds p c).table) (listed_build p c) }
