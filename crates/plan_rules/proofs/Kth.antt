-- The reply that is handed back for an event is the k-th of its process, where k counts that process's handled events.
use mathlib.Core.Path.{◌≡◌, refl, sym, ap, ◌∙◌}
use mathlib.Core.Bool.{Bool, true, false}
use mathlib.Core.List.{List, [], ◌∷◌}
use Prim.Native.Nat.{ℕ, suc, ◌+◌, ◌<◌}
use native.Mathlib.Omega.{arith}
use lib.Dec.{eqb}
use lib.ListN.{length, get_or, drop}
use lib.Seq.{get_or-drop, drop-drop}
use borrow.Author.Tests.{ltb-true, eqb-true, eqb-false, ne_eqb}
use Rattle.rules.specs.Base.{if◌then◌otherwise◌, rising, some}
use Rattle.rules.specs.State.{Message, Event}
use Rattle.rules.specs.Answers.{Answer, Accepted, Batch, Advanced, Finished, Committed, Read, Planned, Refused}
use Rattle.rules.specs.Foreign.{by_process}
use Rattle.rules.specs.HandBack.{Emission}
use Rattle.rules.specs.Calls.{Call, Step, HandBack}
use Rattle.rules.specs.History.{Entry, is_initial, initials, in_hand, commits, events_at}
use Rattle.rules.proofs.Tests.{by_bool, and_left, and_right}
use Rattle.rules.proofs.Lists.{All}
use Rattle.rules.proofs.Counts.{entry_of, hand_batch}
use Rattle.plan_file.specs.Plan.{Reply, Plan}
use Rattle.plan_rules.specs.Host.{reply_of, without, spend, due, left, or_begin, opening, after, next}
use Rattle.plan_rules.specs.Laws.{replies_by, handled_by, answer_to, answers_to}

pub first_is : (q : ℕ) (rs : List Reply) → reply_of q rs ≡ get_or (replies_by q rs) 0 []
unfolding reply_of replies_by if◌then◌otherwise◌
first_is q [] = refl
first_is q (r ∷ rs) = go (eqb q r.process) (first_is q rs)
  where
    go : (t : Bool) → reply_of q rs ≡ get_or (replies_by q rs) 0 [] → (if t then r.messages otherwise reply_of q rs) ≡ get_or (if t then r.messages ∷ replies_by q rs otherwise replies_by q rs) 0 []
    go true h = refl
    go false h = h

-- One reply less, of the process itself and of another.
pub without_own : (q : ℕ) (rs : List Reply) → replies_by q (without q rs) ≡ drop 1 (replies_by q rs)
unfolding without replies_by if◌then◌otherwise◌
without_own q [] = refl
without_own q (r ∷ rs) = by_bool (eqb q r.process) (λ t. rw t) (λ t. rw (t, t) (without_own q rs))

pub without_other : (q d : ℕ) (rs : List Reply) → eqb d q ≡ false → replies_by q (without d rs) ≡ replies_by q rs
unfolding without replies_by if◌then◌otherwise◌
without_other q d [] n = refl
without_other q d (r ∷ rs) n =
    by_bool (eqb d r.process)
    (λ t. let a = eqb-true d r.process t in let b = eqb-false d q n in rw (t, ne_eqb q r.process (λ e. b (a ∙ sym e))))
    (λ t. rw t (ap (λ l. if eqb q r.process then r.messages ∷ l otherwise l) (without_other q d rs n)))

-- Of the event's own process: one is gone already.
one_gone : (q d k : ℕ) (rs : List Reply) → d ≡ q → drop k (replies_by q (without d rs)) ≡ drop (suc k) (replies_by q rs)
one_gone q d k rs a =
    let z : 1 + k ≡ suc k = omega arith in
    ap (drop k) (rw a (without_own q rs)) ∙ drop-drop k 1 (replies_by q rs) ∙ ap (λ (j : ℕ). drop j (replies_by q rs)) z

pub spent : (q : ℕ) (bs : List Event) (rs : List Reply) → replies_by q (spend bs rs) ≡ drop (length (events_at q bs)) (replies_by q rs)
unfolding spend events_at if◌then◌otherwise◌
spent q [] rs = refl
spent q (e ∷ bs) rs =
    by_bool (eqb e.destination q)
    (λ t. rw t (spent q bs (without e.destination rs) ∙ one_gone q e.destination (length (events_at q bs)) rs (eqb-true e.destination q t)))
    (λ t. rw t (spent q bs (without e.destination rs) ∙ ap (drop (length (events_at q bs))) (without_other q e.destination rs t)))

pub left_drops : (p : Plan) (q : ℕ) (es : List Entry) → replies_by q (left p es) ≡ drop (handled_by q es) (replies_by q p.replies)
unfolding left handled_by if◌then◌otherwise◌
left_drops p q [] = refl
left_drops p q (e ∷ es) =
    by_bool (commits e)
    (λ t. rw t (spent q (in_hand es) (left p es) ∙ ap (drop (length (events_at q (in_hand es)))) (left_drops p q es) ∙ drop-drop (length (events_at q (in_hand es))) (handled_by q es) (replies_by q p.replies) ∙ ap (λ k. drop k (replies_by q p.replies)) (swap (handled_by q es) (length (events_at q (in_hand es))))))
    (λ t. rw t (left_drops p q es ∙ ap (λ k. drop k (replies_by q p.replies)) (zero_left (handled_by q es))))
  where
    swap : (a b : ℕ) → a + b ≡ b + a
    swap a b = omega arith

    zero_left : (a : ℕ) → a ≡ 0 + a
    zero_left a = omega arith

pub kth : (p : Plan) (q : ℕ) (es : List Entry) → reply_of q (left p es) ≡ get_or (replies_by q p.replies) (handled_by q es) []
kth p q es =
    first_is q (left p es) ∙ ap (λ (l : List (List Message)). get_or l 0 []) (left_drops p q es) ∙ get_or-drop (handled_by q es) (replies_by q p.replies) 0 []
    ∙ ap (λ (k : ℕ). get_or (replies_by q p.replies) k []) (let z : handled_by q es + 0 ≡ handled_by q es = omega arith in z)

-- In a batch no process stands twice, so a reply used in it changes nothing for the others.
reply_other : (q d : ℕ) (rs : List Reply) → eqb d q ≡ false → reply_of q (without d rs) ≡ reply_of q rs
reply_other q d rs n = first_is q (without d rs) ∙ ap (λ (l : List (List Message)). get_or l 0 []) (without_other q d rs n) ∙ sym (first_is q rs)

later : (d : ℕ) (e : Event) (bs : List Event) → d < e.destination → rising by_process (e ∷ bs) ≡ true → All (λ (f : Event). d < f.destination) (e ∷ bs)
unfolding rising
later d e [] h o = (h, tt)
later d e (f ∷ bs) h o = (h, later d f bs (let g = ltb-true e.destination f.destination (and_left _ _ o) in omega arith) (and_right (by_process e f) (rising by_process (f ∷ bs)) o))

behind : (e : Event) (bs : List Event) → rising by_process (e ∷ bs) ≡ true → All (λ (f : Event). e.destination < f.destination) bs
unfolding rising
behind e [] o = tt
behind e (f ∷ bs) o = later e.destination f bs (ltb-true e.destination f.destination (and_left _ _ o)) (and_right (by_process e f) (rising by_process (f ∷ bs)) o)

tail_rises : (e : Event) (bs : List Event) → rising by_process (e ∷ bs) ≡ true → rising by_process bs ≡ true
unfolding rising
tail_rises e [] o = refl
tail_rises e (f ∷ bs) o = and_right (by_process e f) (rising by_process (f ∷ bs)) o

module _ (p : Plan) (es : List Entry) where
  Due : List Reply → Event → Type 0
  Due rs e = reply_of e.destination rs ≡ answer_to p es e

  still : (d : ℕ) (rs : List Reply) (bs : List Event) → All (λ (f : Event). d < f.destination) bs → All (Due rs) bs → All (Due (without d rs)) bs
  unfolding Due
  still d rs [] h i = tt
  still d rs (f ∷ bs) h i = (reply_other f.destination d rs (ne_eqb d f.destination (λ e. absurd (omega (arith, h.0)))) ∙ i.0, still d rs bs h.1 i.1)

  due_is : (rs : List Reply) (bs : List Event) → rising by_process bs ≡ true → All (Due rs) bs → due rs bs ≡ answers_to p es bs
  unfolding due answers_to Due
  due_is rs [] o i = refl
  due_is rs (e ∷ bs) o i = rw (i.0, due_is (without e.destination rs) bs (tail_rises e bs o) (still e.destination rs bs (behind e bs o) i.1))

  all_due : (bs : List Event) → All (Due (left p es)) bs
  unfolding Due
  all_due [] = tt
  all_due (e ∷ bs) = (kth p e.destination es, all_due bs)

  pub due_answers : (bs : List Event) → rising by_process bs ≡ true → due (left p es) bs ≡ answers_to p es bs
  due_answers bs o = due_is (left p es) bs o (all_due bs)

-- The host hands back only after a batch, for what is in hand.
pub record Backed (p : Plan) (es : List Entry) (k : ℕ) (xs : List Emission) : Type 0 where
  pub mask : k ≡ 0
  pub reply : xs ≡ due (left p es) (in_hand es)

no_opening : {C : Type 0} (p : Plan) (ms : List Message) (mask : ℕ) (xs : List Emission) → some (or_begin p ms) ≡ some (HandBack mask xs) → C
unfolding or_begin
no_opening p [] mask xs h = let z : ◌≡◌ {A = ℕ} 0 1 = cc in absurd (omega arith)
no_opening p (m ∷ ms) mask xs h = let z : ◌≡◌ {A = ℕ} 0 1 = cc in absurd (omega arith)

backed_after : (p : Plan) (k : Call) (a : Answer) (r : ℕ) (es : List Entry) (mask : ℕ) (xs : List Emission) → after p (entry_of k a r ∷ es) k a ≡ some (HandBack mask xs) → Backed p (entry_of k a r ∷ es) mask xs
unfolding after opening if◌then◌otherwise◌
backed_after p k Accepted r es mask xs h = go (is_initial k) h
  where
    go : (t : Bool) → some (if t then or_begin p (drop (initials (entry_of k Accepted r ∷ es)) p.initial) otherwise Step) ≡ some (HandBack mask xs) → Backed p (entry_of k Accepted r ∷ es) mask xs
    go true h = no_opening p _ mask xs h
    go false h = let z : ◌≡◌ {A = ℕ} 0 1 = cc in absurd (omega arith)
backed_after p k (Batch bs g) r es mask xs h = record { mask = cc; reply = let z : xs ≡ due (left p (entry_of k (Batch bs g) r ∷ es)) bs = cc in rw (hand_batch k bs g r es) z }
backed_after p k (Advanced g) r es mask xs h = let z : ◌≡◌ {A = ℕ} 0 1 = cc in absurd (omega arith)
backed_after p k (Finished g) r es mask xs h = let z : ◌≡◌ {A = ℕ} 0 1 = cc in absurd (omega arith)
backed_after p k (Committed g) r es mask xs h = let z : ◌≡◌ {A = ℕ} 0 1 = cc in absurd (omega arith)
backed_after p k (Read x) r es mask xs h = let z : ◌≡◌ {A = ℕ} 0 1 = cc in absurd (omega arith)
backed_after p k (Planned j) r es mask xs h = let z : ◌≡◌ {A = ℕ} 0 1 = cc in absurd (omega arith)
backed_after p k (Refused x) r es mask xs h = let z : ◌≡◌ {A = ℕ} 0 1 = cc in absurd (omega arith)

pub backed : (p : Plan) (es : List Entry) (mask : ℕ) (xs : List Emission) → next p es ≡ some (HandBack mask xs) → Backed p es mask xs
unfolding next opening
backed p [] mask xs h = no_opening p _ mask xs h
backed p (e ∷ es) mask xs h = backed_after p e.call e.answer e.raises es mask xs h
