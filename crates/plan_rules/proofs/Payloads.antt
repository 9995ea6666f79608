-- Messages that differ only behind the 16th byte of a payload get the same answers.
use mathlib.Core.Path.{◌≡◌, refl, sym, ap, ◌∙◌}
use mathlib.Core.Bool.{Bool, true, false, not, ◌&&◌, ◌||◌}
use mathlib.Core.List.{List, [], ◌∷◌, ◌++◌}
use Prim.Native.Nat.{ℕ, ◌+◌, ◌≤◌}
use lib.Dec.{leb, ltb}
use lib.ListN.{length}
use borrow.Author.Tests.{ltb-false}
use Rattle.rules.specs.Base.{if◌then◌otherwise◌, any, any_of, non_empty, up_to}
use Rattle.rules.specs.State.{Message, State, Counters, max_count, max_pending, max_payload, max_processes}
use Rattle.rules.specs.Answers
use Rattle.rules.specs.Answers.{Refusal}
use Rattle.rules.specs.Rows.{Row, ◌⇒◌, unless, refuse}
use Rattle.rules.specs.Pending.{route}
use Rattle.rules.specs.Foreign.{foreign}
use Rattle.rules.specs.Initial.{initial_rows, add_initial}
use Rattle.rules.specs.HandBack.{Emission, emitters_fall, in_batch, failed, malformed, hand_back}
use Rattle.rules.proofs.Tests.{by_bool, or_left, or_right}
use Rattle.plan_file.specs.Like.{Like, LikeEmission, Alike}
use Rattle.plan_rules.specs.Laws.{LongPayloads}

-- A row that decides, whatever would follow.
decides : {A : Type 0} (rs ts : List Row) (r : Row) (f : Refusal → A) (x y : A) → r.test ≡ true → unless (rs ++ (r ∷ ts)) f x ≡ unless (rs ++ (r ∷ ts)) f y
unfolding unless if◌then◌otherwise◌
decides [] ts r f x y h = rw h
decides (q ∷ rs) ts r f x y h = rw (decides rs ts r f x y h)

-- At most 16 bytes: the same message.
abbrev made : ℕ → ℕ → ℕ → List ℕ → Message
made s d t p = record { source = s; destination = d; tick = t; payload = p }

same_message : (a b : Message) → Like a b → length a.payload ≤ 16 → a ≡ b
same_message a b l h =
    ap (λ x. made x a.destination a.tick a.payload) l.source
    ∙ ap (λ x. made b.source x a.tick a.payload) l.destination
    ∙ ap (λ x. made b.source b.destination x a.payload) l.tick
    ∙ ap (λ (x : List ℕ). made b.source b.destination b.tick x) (l.payload h)

abbrev long : Message → Bool
long m = ltb max_payload (length m.payload)

same_length : (a b : Message) → Like a b → long a ≡ long b
same_length a b l = ap (ltb max_payload) l.size

-- 11 to 16 stand before 17, and 18 and 19 behind.
abbrev first_rows : State → Message → List Row
first_rows s m =
    (foreign s ⇒ Answers.ForeignState)
    ∷ (s.poisoned ⇒ Answers.Poisoned)
    ∷ (not s.initial ⇒ Answers.InitialEventsAlreadyClosed)
    ∷ (leb s.n m.source ⇒ Answers.UnknownInitialSource m.source)
    ∷ (leb s.n m.destination ⇒ Answers.UnknownInitialDestination m.destination)
    ∷ (not (route s.edges m.source m.destination) ⇒ Answers.InitialRouteMissing m.source m.destination)
    ∷ []

abbrev last_rows : State → List Row
last_rows s = (leb max_pending (length s.pending) ⇒ Answers.QueueFull) ∷ (ltb max_count (s.next + 1) ⇒ Answers.EventSequenceOverflow) ∷ []

abbrev payload_row : ℕ → Row
payload_row k = ltb max_payload k ⇒ Answers.PayloadTooLong k

like_initial : (s : State) (c : Counters) (a b : Message) → Like a b → add_initial s c a ≡ add_initial s c b
unfolding add_initial
like_initial s c a b l =
    by_bool (long a)
    (λ t. long_rows _ _ t)
    (λ t. ap (add_initial s c) (same_message a b l (ltb-false max_payload (length a.payload) t)))
  where
    same_rows : initial_rows s a ≡ initial_rows s b
    same_rows = rw (l.source, l.destination, l.size)

    long_rows : (x y : _) → long a ≡ true → unless (initial_rows s a) (refuse s c) x ≡ unless (initial_rows s b) (refuse s c) y
    long_rows x y t = decides (first_rows s a) (last_rows s) (payload_row (length a.payload)) (refuse s c) x y t ∙ ap (λ (rs : List Row). unless rs (refuse s c) y) same_rows

-- Hand back: 26 by one payload of any emission.
same_emission : (x y : Emission) → LikeEmission x y → long x.message ≡ false → x ≡ y
same_emission x y l h =
    ap (λ (k : ℕ). record { emitter = k; message = x.message }) l.emitter
    ∙ ap (λ (m : Message). record { emitter = y.emitter; message = m }) (same_message x.message y.message l.message (ltb-false max_payload (length x.message.payload) h))

abbrev long_of : Emission → Bool
long_of x = long x.message

alike_same : (xs ys : List Emission) → Alike LikeEmission xs ys → any long_of xs ≡ false → xs ≡ ys
unfolding any
alike_same [] [] i h = refl
alike_same [] (y ∷ ys) i h = absurd i
alike_same (x ∷ xs) [] i h = absurd i
alike_same (x ∷ xs) (y ∷ ys) i h =
    ap (λ (z : Emission). z ∷ xs) (same_emission x y i.0 (or_left (long_of x) (any long_of xs) h))
    ∙ ap (λ (zs : List Emission). y ∷ zs) (alike_same xs ys i.1 (or_right (long_of x) (any long_of xs) h))

alike_long : (xs ys : List Emission) → Alike LikeEmission xs ys → any long_of xs ≡ any long_of ys
unfolding any
alike_long [] [] i = refl
alike_long [] (y ∷ ys) i = absurd i
alike_long (x ∷ xs) [] i = absurd i
alike_long (x ∷ xs) (y ∷ ys) i = rw (same_length x.message y.message i.0.message, alike_long xs ys i.1)

long_malformed : (s : State) (mask : ℕ) (xs : List Emission) → any long_of xs ≡ true → malformed s.batch mask xs ≡ true
unfolding malformed any_of any
long_malformed s mask xs h = rw h (last_true (emitters_fall xs) (any (λ x. not (in_batch s.batch x.emitter)) xs) (any (λ p. failed mask p && not (in_batch s.batch p)) (up_to max_processes)) (any (λ x. failed mask x.emitter) xs))
  where
    last_true : (a b c d : Bool) → a || (b || (c || (d || true))) ≡ true
    last_true true b c d = refl
    last_true false true c d = refl
    last_true false false true d = refl
    last_true false false false true = refl
    last_true false false false false = refl

abbrev before_26 : State → List Row
before_26 s = (foreign s ⇒ Answers.ForeignState) ∷ (s.poisoned ⇒ Answers.Poisoned) ∷ (not (non_empty s.batch) ⇒ Answers.NoBatch) ∷ []

like_hand_back : (s : State) (c : Counters) (mask : ℕ) (xs ys : List Emission) → Alike LikeEmission xs ys → hand_back s c mask xs ≡ hand_back s c mask ys
unfolding hand_back
like_hand_back s c mask xs ys i =
    by_bool (any long_of xs)
    (λ t.
    rw (long_malformed s mask xs t, long_malformed s mask ys (sym (alike_long xs ys i) ∙ t))
    (decides (before_26 s) [] (true ⇒ Answers.MalformedReply) (refuse s c) _ _ refl))
    (λ t. ap (hand_back s c mask) (alike_same xs ys i t))

pub long_payloads : LongPayloads
long_payloads = record { initial = like_initial; hand_back_holds = like_hand_back }
