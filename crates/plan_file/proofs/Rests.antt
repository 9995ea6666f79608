-- Each part of the grammar as the walk takes it.
use Prim.Native.Nat.{ℕ, ◌+◌, ◌*◌}
use mathlib.Core.Path.{◌≡◌, ◌∙◌}
use mathlib.Core.Bool.{Bool}
use mathlib.Core.List.{List}
use Rattle.plan_file.specs.Format.{Got, next, Format, field, pair, counted, gets}
use Rattle.plan_file.specs.Grammar.{edge, message, reply, plan}
use Rattle.plan_file.specs.Walked.{rest, skipped}
use Rattle.plan_file.proofs.Walk.{Fixed, onward_same, fixed_field, fixed_pair, fixed_gets, rest_seen, rest_pair, rest_fixed, rest_counted, rest_run, skip_skip}
use Rattle.plan_file.specs.Onward.{onward}

-- A field in front of something that begins with w bits to pass over.
pub one_more : {A : Type 0} (v w : ℕ) (g : Format A) (j : List Bool → Got (Unit {0})) → ((b : List Bool) → rest (g.get b) ≡ onward (skipped w b) j)
    → (b : List Bool) → rest ((pair (field v) g).get b) ≡ onward (skipped (v + w) b) j
one_more v w g j h b = rest_fixed (field v) g v (fixed_field v) b ∙ onward_same (skipped v b) _ _ h ∙ skip_skip v w b j

pub rest_message : (b : List Bool) → rest (message.get b) ≡ onward (skipped 140 b) (λ r. next ((field 5).get r) (λ n r. skipped (n * 8) r))
unfolding message
rest_message b =
    rest_seen _ _ _ _ _ b
    ∙ one_more 6 134 _ _ (one_more 6 128 _ _ (rest_fixed (field 128) (counted 5 (field 8)) 128 (fixed_field 128))) b
    ∙ onward_same (skipped 140 b) _ _ (rest_run 5 (field 8) 8 (fixed_field 8))

pub rest_reply : (b : List Bool) → rest (reply.get b) ≡ onward (skipped 6 b) (λ r. next ((field 10).get r) (λ n r. rest (gets message n r)))
unfolding reply
rest_reply b =
    rest_seen _ _ _ _ _ b
    ∙ rest_fixed (field 6) (counted 10 message) 6 (fixed_field 6) b
    ∙ onward_same (skipped 6 b) _ _ (rest_counted 10 message)

pub fixed_edge : Fixed 140 edge
unfolding edge
fixed_edge b =
    rest_seen _ _ _ _ _ b
    ∙ fixed_pair (field 6) (pair (field 6) (field 128)) 6 134 (fixed_field 6) (fixed_pair (field 6) (field 128) 6 128 (fixed_field 6) (fixed_field 128)) b

pub rest_edges : (n : ℕ) (b : List Bool) → rest (gets edge n b) ≡ skipped (n * 140) b
rest_edges n b = fixed_gets edge 140 fixed_edge n b

-- What stands behind the 327 bits of the header.
abbrev pub lists_of_rest : List Bool → Got (Unit {0})
lists_of_rest b = onward (rest ((counted 10 edge).get b)) (λ r. onward (rest ((counted 10 message).get r)) (λ r. rest ((counted 10 reply).get r)))

rest_lists : (b : List Bool) → rest ((pair (counted 10 edge) (pair (counted 10 message) (counted 10 reply))).get b) ≡ lists_of_rest b
rest_lists b =
    rest_pair (counted 10 edge) (pair (counted 10 message) (counted 10 reply)) b
    ∙ onward_same (rest ((counted 10 edge).get b)) _ _ (rest_pair (counted 10 message) (counted 10 reply))

pub rest_plan : (b : List Bool) → rest (plan.get b) ≡ onward (skipped 327 b) lists_of_rest
unfolding plan
rest_plan b =
    rest_seen _ _ _ _ _ b
    ∙ one_more 7 320 _ _ (one_more 128 192 _ _ (one_more 128 64 _ _ (rest_fixed (field 64) (pair (counted 10 edge) (pair (counted 10 message) (counted 10 reply))) 64 (fixed_field 64)))) b
    ∙ onward_same (skipped 327 b) _ _ rest_lists
