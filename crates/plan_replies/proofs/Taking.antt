-- The reply that is due to an event is written behind those that are there.
use mathlib.Core.Path.{◌≡◌, sym, ap, subst, ◌∙◌}
use mathlib.Core.Bool.{Bool}
use mathlib.Core.List.{List, ◌++◌, map, append-nil}
use Prim.Native.Nat.{ℕ, suc, ◌+◌, ◌*◌, ◌-◌, ◌≤◌, ◌<◌}
use native.Mathlib.Omega.{arith}
use native.Mathlib.Nat.{zero-add}
use lib.Dec.{eqb}
use lib.ListN.{length, get_or, drop, set, length-append, length-map}
use borrow.Author.Tests.{eqb-true, eqb-false}
use Rattle.bits.specs.Bytes.{stream}
use Rattle.bits.proofs.Streams.{length_stream}
use Rattle.types.specs.declared.LpId.{LpId}
use Rattle.types.specs.Value.{lp_id_of}
use Rattle.words.specs.Words.{tab}
use Rattle.words.proofs.Tab.{tab_split}
use Rattle.rules.specs.State.{Message}
use Rattle.rules.specs.HandBack.{Emission}
use Rattle.rules.proofs.Tests.{by_bool}
use Rattle.reply_words.specs.Emissions.{emission_at, emissions_of}
use Rattle.reply_words.proofs.Cut.{emissions_cut}
use Rattle.plan_file.specs.Format.{Got.got, counted}
use Rattle.plan_file.specs.Plan.{Reply}
use Rattle.plan_file.specs.Grammar.{message}
use Rattle.plan_file.specs.Standing.{IsGot}
use Rattle.plan_file.specs.Events.{emission_count}
use Rattle.plan_file.specs.Like.{LikeEmission, Alike}
use Rattle.plan_file.proofs.Messages.{reply_parts}
use Rattle.plan_rules.specs.Host.{emission, reply_of, without}
use Rattle.plan_rules.proofs.Replies.{size_without}
use Rattle.plan_reader.specs.Written.{CanWrite, EmissionsWritten}
use Rattle.plan_reader.proofs.Replies.{alike_append}
use Rattle.plan_replies.specs.Table.{reply_at, StandsAt, Table}
use Rattle.plan_replies.specs.Fills.{Emits, Takes}
use Rattle.plan_replies.proofs.Tables.{process_there, nothing_due, nothing_taken, reply_there, due_reply, reply_taken}

-- Nothing is due.
module _ (s t y : List ℕ) (have q : ℕ) (small : q < 64) (z : get_or t q 0 ≡ 0) where
  pub takes_nothing : Takes s t y have q t y have
  takes_nothing = record {
    emits = λ rs left xs i e. subst (Emits y have) (sym (ap (λ (ms : List Message). xs ++ map (emission q) ms) (nothing_due (stream s) rs left t i q small z) ∙ append-nil xs)) e;
    table = λ rs left i. nothing_taken (stream s) rs left t i q small z;
  }

-- A reply is due: the link i, which is not 0, is that of the reply i - 1.
not_zero : (n : ℕ) → (n ≡ 0 → ⊥) → 0 < n
not_zero n f = by_bool (eqb n 0) (λ e. absurd (f (eqb-true n 0 e))) (λ e. let g = eqb-false n 0 e in omega arith)

module _ (s t y : List ℕ) (have q : ℕ) (small : q < 64) (i : ℕ) (is : i ≡ get_or t q 0) (linked : i ≡ 0 → ⊥) where
  number : get_or t q 0 ≡ suc (i - 1)
  number = let p : 0 < i = not_zero i linked in let n : i ≡ suc (i - 1) = omega arith in sym is ∙ n

  place_is : 64 + 2 * (i - 1) ≡ 62 + 2 * i
  place_is = let p : 0 < i = not_zero i linked in omega arith

  link_is : 65 + 2 * (i - 1) ≡ 63 + 2 * i
  link_is = let p : 0 < i = not_zero i linked in omega arith

  module _ (rs left : List Reply) (g : Table (stream s) rs left 0 t) where
    abbrev due_now : Reply
    due_now = reply_at rs (i - 1)

    here : StandsAt (stream s) (get_or t (62 + 2 * i) 0) due_now
    here = subst (λ (j : ℕ). StandsAt (stream s) (get_or t j 0) due_now) place_is (g.places (i - 1) (reply_there (stream s) rs left t g q small (i - 1) number))

    due_is : reply_of q left ≡ due_now.messages
    due_is = due_reply (stream s) rs left t g q small (i - 1) number

    pub link_inside : i ≤ 1023
    link_inside = omega (arith, g.few, (g.cursors q small).inside, is)

    pub place_inside : length s ≤ 16384 → get_or t (62 + 2 * i) 0 + 6 ≤ 131072
    place_inside l = let r : get_or t (62 + 2 * i) 0 + 6 ≤ length s * 8 = rw length_stream at (process_there (stream s) _ due_now here).room in omega arith

    messages_here : (counted 10 message).get (drop (get_or t (62 + 2 * i) 0 + 6) (stream s)) ≡ got due_now.messages here.behind
    messages_here = (reply_parts (stream s) (get_or t (62 + 2 * i) 0) due_now here.behind here.stands).messages

    pub can_write : 8 * (have + emission_count left) ≤ length y → CanWrite (stream s) (get_or t (62 + 2 * i) 0 + 6) have (length y)
    can_write r = record {
      stands = subst IsGot (sym messages_here) tt;
      room = λ ms behind e.
          let m : ms ≡ due_now.messages = same-got ms behind due_now.messages here.behind (sym e ∙ messages_here) in
          let l : length ms ≡ length (reply_of q left) = ap length (m ∙ sym due_is) in
          omega (arith, size_without q left);
    }
      where
        same-got : (a : List Message) (x : List Bool) (b : List Message) (y : List Bool) → got a x ≡ got b y → a ≡ b
        same-got a x b y e = cc

    module _ (p : LpId) (id : lp_id_of p ≡ q) (y' : List ℕ) (n : ℕ) (w : EmissionsWritten (stream s) (get_or t (62 + 2 * i) 0 + 6) p y have y' n) where
      count_is : n ≡ have + length (reply_of q left)
      count_is = w.count due_now.messages here.behind messages_here ∙ ap (λ (ms : List Message). have + length ms) (sym due_is)

      -- The words of those that were there are as they were.
      kept : emissions_of have y' ≡ emissions_of have y
      kept = sym (emissions_cut y' have) ∙ ap (emissions_of have) w.before ∙ emissions_cut y have

      emissions-are : emissions_of n y' ≡ emissions_of have y ++ tab (emission_at y') have (length (reply_of q left))
      emissions-are = ap (λ (k : ℕ). emissions_of k y') count_is ∙ tab_split (emission_at y') 0 have (length (reply_of q left)) ∙ (λ j. kept j ++ tab (emission_at y') (zero-add have j) (length (reply_of q left)))

      new-ones : Alike LikeEmission (map (emission q) (reply_of q left)) (tab (emission_at y') have (length (reply_of q left)))
      new-ones =
          subst (λ (ms : List Message). Alike LikeEmission (map (emission q) ms) (tab (emission_at y') have (length ms))) (sym due_is)
          (subst (λ (x : ℕ). Alike LikeEmission (map (emission x) due_now.messages) (tab (emission_at y') have (length due_now.messages))) id (w.like due_now.messages here.behind messages_here))

      pub emits_more : (xs : List Emission) → Emits y have xs → Emits y' n (xs ++ map (emission q) (reply_of q left))
      emits_more xs e = record {
        count = let l : length (xs ++ map (emission q) (reply_of q left)) ≡ length xs + length (reply_of q left) = rw (length-append, length-map) in omega (arith, count_is, e.count);
        alike = subst (Alike LikeEmission (xs ++ map (emission q) (reply_of q left))) (sym emissions-are) (alike_append LikeEmission xs (emissions_of have y) _ _ e.alike new-ones);
      }

    pub link_taken : Table (stream s) rs (without q left) 0 (set t q (get_or t (63 + 2 * i) 0))
    link_taken = subst (λ (j : ℕ). Table (stream s) rs (without q left) 0 (set t q (get_or t j 0))) link_is (reply_taken (stream s) rs left t g q small (i - 1) number)

  pub takes_reply : (p : LpId) → lp_id_of p ≡ q → (y' : List ℕ) (n : ℕ) → EmissionsWritten (stream s) (get_or t (62 + 2 * i) 0 + 6) p y have y' n → Takes s t y have q (set t q (get_or t (63 + 2 * i) 0)) y' n
  takes_reply p id y' n w = record { emits = λ rs left xs g e. emits_more rs left g p id y' n w xs e; table = λ rs left g. link_taken rs left g }
