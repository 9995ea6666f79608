-- The whole contents from the walks over their parts, and what stands at the places found.
use Prim.Native.Nat.{ℕ, ◌<◌, ◌≤◌}
use mathlib.Core.Path.{◌≡◌, refl, sym, ap, ◌∙◌}
use mathlib.Core.Bool.{Bool}
use mathlib.Core.List.{List}
use native.Mathlib.Omega.{arith}
use Rattle.std.proofs.Common.{Option, Some, None}
use lib.ListN.{length, take, drop}
use Rattle.bits.specs.Bits.{value_of}
use Rattle.plan_file.specs.Format.{Got.short, Got.got, next, Format, field, pair, counted, gets}
use Rattle.plan_file.specs.Plan.{Plan}
use Rattle.plan_file.specs.Grammar.{edge, message, reply, plan}
use Rattle.plan_file.specs.Standing.{Standing}
use Rattle.plan_file.specs.Checks.{PartsOf}
use Rattle.plan_file.specs.Walked.{rest, CountedList, Counts, WalkedPlan, Walks}
use Rattle.plan_file.specs.declared.Parts.{Parts}
use Rattle.plan_file.specs.declared.Listed.{Listed}
use Rattle.plan_file.proofs.Walk.{skip_some, skip_short, rest_counted}
use Rattle.plan_file.specs.Onward.{onward}
use Rattle.plan_file.proofs.Rests.{lists_of_rest, rest_plan}
use Rattle.plan_file.proofs.Reading.{head_parts, pair_parts, seen_parts, gets_length}

-- A plan's fields and lists, where they stand.
pub record PlanParts (b : List Bool) (p : Plan) (r : List Bool) : Type 0 where
  pub room : 327 ≤ length b
  pub n : p.n ≡ value_of (take 7 b)
  pub lookahead : p.lookahead ≡ value_of (take 128 (drop 7 b))
  pub horizon : p.horizon ≡ value_of (take 128 (drop 135 b))
  pub budget : p.budget ≡ value_of (take 64 (drop 263 b))
  pub edges_behind : List Bool
  pub initial_behind : List Bool
  pub edges : (counted 10 edge).get (drop 327 b) ≡ got p.edges edges_behind
  pub initial : (counted 10 message).get edges_behind ≡ got p.initial initial_behind
  pub replies : (counted 10 reply).get initial_behind ≡ got p.replies r

pub plan_parts : (b : List Bool) (p : Plan) (r : List Bool) → plan.get b ≡ got p r → PlanParts b p r
unfolding plan
plan_parts b p r e =
    let a = head_parts 7 _ b 0 _ r (seen_parts _ _ _ _ _ b p r e) in
    let l = head_parts 128 _ b 7 _ r a.behind in
    let h = head_parts 128 _ b 135 _ r l.behind in
    let u = head_parts 64 _ b 263 _ r h.behind in
    let d = pair_parts (counted 10 edge) (pair (counted 10 message) (counted 10 reply)) (drop 327 b) _ r u.behind in
    let f = pair_parts (counted 10 message) (counted 10 reply) d.between _ r d.second in
    record {
      room = omega arith;
      n = a.value;
      lookahead = l.value;
      horizon = h.value;
      budget = u.value;
      edges_behind = d.between;
      initial_behind = f.between;
      edges = d.first;
      initial = f.first;
      replies = f.second;
    }

-- A counted list that stands where its count was found.
module _ {A : Type 0} (f : Format A) {b : List Bool} {at : ℕ} {l : Listed} (c : CountedList f b at l) where
  pub counted_rest : rest ((counted 10 f).get (drop at b)) ≡ got tt (drop l.next b)
  unfolding next
  counted_rest = rest_counted 10 f (drop at b) ∙ rw c.count c.ends

  module _ {x : List Bool} {xs : List A} {t : List Bool} (d : drop at b ≡ x) (e : (counted 10 f).get x ≡ got xs t) where
    list_is : gets f l.count (drop l.first b) ≡ got xs t
    unfolding counted next
    list_is = let h : next ((field 10).get (drop at b)) (gets f) ≡ got xs t = rw d e in rw c.count at h

    pub count_is : l.count ≡ length xs
    count_is = sym (gets_length f l.count (drop l.first b) xs t list_is)

    pub stands : Standing f b l.first xs
    stands = record { behind = t; reads = rw count_is at list_is; inside = c.first_inside }

    pub behind_is : drop l.next b ≡ t
    unfolding rest
    behind_is = let g : got tt (drop l.next b) ≡ rest (got xs t) = sym c.ends ∙ ap rest list_is in cc

-- What a walk's answer says, by its case.
module _ {A : Type 0} (f : Format A) (b : List Bool) (at : ℕ) (r : Option Listed) (c : Counts f b at r) where
  pub listed : (l : Listed) → r ≡ Some l → CountedList f b at l
  listed l e = rw e at c

  pub cut : r ≡ None → rest ((counted 10 f).get (drop at b)) ≡ short
  cut e = rest_counted 10 f (drop at b) ∙ rw e at c

pub whole_of : (b : List Bool) (r : Option (Parts × ℕ)) → Walks b r → (p : Parts × ℕ) → r ≡ Some p → WalkedPlan b p.0 p.1
whole_of b r w p e = rw e at w

pub ends_of : (b : List Bool) (r : Option (Parts × ℕ)) → Walks b r → r ≡ None → rest (plan.get b) ≡ short
ends_of b r w e = rw e at w

module _ (b : List Bool) where
  pub plan_short : length b < 327 → rest (plan.get b) ≡ short
  unfolding onward
  plan_short h = rest_plan b ∙ rw (skip_short 327 b h)

  module _ (h : 327 ≤ length b) where
    lists_at : rest (plan.get b) ≡ lists_of_rest (drop 327 b)
    unfolding onward
    lists_at = rest_plan b ∙ rw (skip_some 327 b h)

    pub edges_cut : rest ((counted 10 edge).get (drop 327 b)) ≡ short → rest (plan.get b) ≡ short
    unfolding onward
    edges_cut e = lists_at ∙ rw e

    module _ {e : Listed} (es : CountedList edge b 327 e) where
      pub initial_cut : rest ((counted 10 message).get (drop e.next b)) ≡ short → rest (plan.get b) ≡ short
      unfolding onward
      initial_cut s = lists_at ∙ rw (counted_rest edge es, s)

      module _ {i : Listed} (is : CountedList message b e.next i) where
        pub replies_cut : rest ((counted 10 reply).get (drop i.next b)) ≡ short → rest (plan.get b) ≡ short
        unfolding onward
        replies_cut s = lists_at ∙ rw (counted_rest edge es, counted_rest message is, s)

        module _ {j : Listed} (rs : CountedList reply b i.next j) where
          abbrev found : Parts
          found = record { edges = e.count; initial = i.count; initial_at = i.first; replies = j.count; replies_at = j.first }

          lists_of : (p : Plan) (r : List Bool) → plan.get b ≡ got p r → PartsOf b p found
          lists_of p r q =
              let g = plan_parts b p r q in
              let ib = behind_is edge es refl g.edges in
              let rb = behind_is message is ib g.initial in
              record {
                edges = count_is edge es refl g.edges;
                initial = count_is message is ib g.initial;
                replies = count_is reply rs rb g.replies;
                edges_stand = rw es.starts at (stands edge es refl g.edges);
                initial_stand = stands message is ib g.initial;
                replies_stand = stands reply rs rb g.replies;
              }

          pub whole : WalkedPlan b found j.next
          unfolding onward
          whole = record {
            ends = lists_at ∙ rw (counted_rest edge es, counted_rest message is) (counted_rest reply rs);
            inside = rs.inside;
            lists = lists_of;
          }
