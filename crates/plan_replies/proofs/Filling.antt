-- A reply is filled event by event.
use mathlib.Core.Path.{◌≡◌, refl, sym, ap, subst, ◌∙◌}
use mathlib.Core.List.{List, [], ◌∷◌, ◌++◌, map, append_assoc, append-nil}
use Prim.Native.Nat.{ℕ, ◌+◌, ◌*◌, ◌≤◌, ◌<◌}
use native.Mathlib.Omega.{arith}
use lib.ListN.{length, get_or}
use Rattle.bits.specs.Bytes.{stream}
use Rattle.words.specs.Words.{tab}
use Rattle.words.proofs.Tab.{tab_push}
use Rattle.rules.specs.State.{Event}
use Rattle.rules.specs.HandBack.{Emission}
use Rattle.records.specs.Records.{record_in, event_at, events_of, Owners}
use Rattle.plan_file.specs.Plan.{Reply}
use Rattle.plan_rules.specs.Host.{emission, reply_of, without, spend, due}
use Rattle.plan_rules.proofs.Replies.{size_spend}
use Rattle.plan_replies.specs.Table.{Table}
use Rattle.plan_replies.specs.Fills.{CanReply, Emits, Takes, Fills}

spend_on : (bs : List Event) (e : Event) (rs : List Reply) → spend (bs ++ (e ∷ [])) rs ≡ without e.destination (spend bs rs)
unfolding spend
spend_on [] e rs = refl
spend_on (b ∷ bs) e rs = spend_on bs e (without b.destination rs)

due_on : (bs : List Event) (e : Event) (rs : List Reply) → due rs (bs ++ (e ∷ [])) ≡ due rs bs ++ map (emission e.destination) (reply_of e.destination (spend bs rs))
unfolding due spend
due_on [] e rs = append-nil (map (emission e.destination) (reply_of e.destination rs))
due_on (b ∷ bs) e rs = ap (λ (l : List Emission). map (emission b.destination) (reply_of b.destination rs) ++ l) (due_on bs e (without b.destination rs)) ∙ sym (append_assoc (map (emission b.destination) (reply_of b.destination rs)) (due (without b.destination rs) bs) _)

-- Nothing is due to no event.
pub fills_none : (s t batch reply : List ℕ) → Fills s t (events_of 0 batch) t reply 0
unfolding due spend tab
fills_none s t batch reply = record { emits = λ rs left i. record { count = refl; alike = tt }; table = λ rs left i. i }

-- One event more.
module _ (s t : List ℕ) (bs : List Event) (t' reply' : List ℕ) (n : ℕ) (i : Fills s t bs t' reply' n) where
  pub fills_more : (e : Event) (t'' reply'' : List ℕ) (m : ℕ) → Takes s t' reply' n e.destination t'' reply'' m → Fills s t (bs ++ (e ∷ [])) t'' reply'' m
  fills_more e t'' reply'' m k = record {
    emits = λ rs left j. subst (Emits reply'' m) (sym (due_on bs e left)) (k.emits rs (spend bs left) (due left bs) (i.table rs left j) (i.emits rs left j));
    table = λ rs left j. subst (λ (l : List Reply). Table (stream s) rs l 0 t'') (sym (spend_on bs e left)) (k.table rs (spend bs left) (i.table rs left j));
  }

  -- There is room for what is still left.
  pub still_room : (reply : List ℕ) → length reply' ≡ length reply → CanReply s t reply 0 → CanReply s t' reply' n
  still_room reply same r = record {
    replies = r.replies;
    left = spend bs r.left;
    short = r.short;
    table = i.table r.replies r.left r.table;
    room = omega (arith, same, r.room, size_spend r.left bs, (i.emits r.replies r.left r.table).count);
  }

-- The events of a batch in words, with one more.
events_push : (n : ℕ) (w : List ℕ) → events_of (n + 1) w ≡ events_of n w ++ (event_at w n ∷ [])
events_push n w = tab_push (event_at w) n

module _ (s t batch : List ℕ) (k : ℕ) (t' reply' : List ℕ) (n : ℕ) (i : Fills s t (events_of k batch) t' reply' n) where
  pub fills_on : (t'' reply'' : List ℕ) (m : ℕ) → Takes s t' reply' n (get_or batch (8 * k) 0) t'' reply'' m → Fills s t (events_of (k + 1) batch) t'' reply'' m
  unfolding event_at record_in
  fills_on t'' reply'' m x = subst (λ (bs : List Event). Fills s t bs t'' reply'' m) (sym (events_push k batch)) (fills_more s t (events_of k batch) t' reply' n i (event_at batch k) t'' reply'' m x)

  -- All of them: and the reply has the room for it.
  pub all_filled : {count : ℕ} → k ≡ count → (reply : List ℕ) → length reply' ≡ length reply → CanReply s t reply 0 → Fills s t (events_of count batch) t' reply' n × (8 * n ≤ length reply')
  all_filled e reply same r = (subst (λ (j : ℕ). Fills s t (events_of j batch) t' reply' n) e i, let x = still_room s t (events_of k batch) t' reply' n i reply same r in omega (arith, x.room))

-- The process of an event of the batch.
pub owner : (count : ℕ) (w : List ℕ) → Owners count w → (i : ℕ) → i < count → get_or w (8 * i) 0 < 64
unfolding Owners event_at record_in
owner count w o i l = o i l
