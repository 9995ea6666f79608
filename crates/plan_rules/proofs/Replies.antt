-- Replies that are used hold no more messages than the plan has.
use mathlib.Core.Path.{◌≡◌, refl}
use mathlib.Core.Bool.{true, false}
use mathlib.Core.List.{List, [], ◌∷◌}
use Prim.Native.Nat.{ℕ, ◌+◌}
use native.Mathlib.Omega.{arith}
use lib.Dec.{eqb}
use lib.ListN.{length, length-append, length-map}
use Rattle.rules.specs.Base.{if◌then◌otherwise◌}
use Rattle.rules.specs.State.{Event}
use Rattle.rules.specs.History.{Entry, in_hand, commits}
use Rattle.plan_file.specs.Plan.{Reply, Plan}
use Rattle.plan_rules.specs.Host.{reply_of, without, spend, due, left}
use Rattle.plan_file.specs.Events.{emission_count}

pub size_without : (q : ℕ) (rs : List Reply) → length (reply_of q rs) + emission_count (without q rs) ≡ emission_count rs
unfolding reply_of without emission_count if◌then◌otherwise◌
size_without q [] = omega arith
size_without q (r ∷ rs) = go (eqb q r.process) (size_without q rs)
  where
    go : (t : _) → length (reply_of q rs) + emission_count (without q rs) ≡ emission_count rs → length (if t then r.messages otherwise reply_of q rs) + emission_count (if t then rs otherwise r ∷ without q rs) ≡ length r.messages + emission_count rs
    go true h = refl
    go false h = omega arith

pub size_spend : (rs : List Reply) (bs : List Event) → length (due rs bs) + emission_count (spend bs rs) ≡ emission_count rs
unfolding due spend
size_spend rs [] = omega arith
size_spend rs (e ∷ bs) =
    let q = e.destination in
    let l : length (due rs (e ∷ bs)) ≡ length (reply_of q rs) + length (due (without q rs) bs) = rw (length-append, length-map) in
    omega (arith, l, size_without q rs, size_spend (without q rs) bs)

-- With one more entry.
pub left_same : (p : Plan) (e : Entry) (es : List Entry) → commits e ≡ false → left p (e ∷ es) ≡ left p es
unfolding left if◌then◌otherwise◌
left_same p e es c = rw c

pub left_less : (p : Plan) (e : Entry) (es : List Entry) → commits e ≡ true → left p (e ∷ es) ≡ spend (in_hand es) (left p es)
unfolding left if◌then◌otherwise◌
left_less p e es c = rw c
