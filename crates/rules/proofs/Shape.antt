-- What 11 tells of a state that it lets pass, and that such facts make 11 pass.
use mathlib.Core.Path.{◌≡◌, ap, sym, ◌∙◌}
use mathlib.Core.Bool.{Bool, true, false, not, ◌&&◌}
use mathlib.Core.List.{List, [], ◌∷◌}
use Prim.Native.Nat.{ℕ, suc, ◌≤◌, ◌<◌}
use native.Mathlib.Omega.{arith}
use lib.Dec.{leb, ltb, eqb}
use lib.ListN.{length}
use borrow.Author.Tests.{leb-false, ltb-false, eqb-true, eqb-false, lt-leb, le-ltb, eq-eqb, ne_eqb}
use Rattle.rules.specs.Base.{up_to, any, any_of, non_empty, rising}
use Rattle.rules.specs.State.{Event, Edge, Stored, unset, stored, State, max_tick}
use Rattle.rules.specs.Pending.{before}
use Rattle.rules.specs.Frontiers.{least_inbound, recorded}
use Rattle.rules.specs.Foreign.{long_payload, over_limit, without_lookahead, unknown_id_edge, unknown_id_event, unknown_id, duplicate_or_self_edges, horizon_is_max, is_unset, wrong_record, by_process, clauses, foreign}
use Rattle.rules.proofs.Tests.{or_left, or_right, or_both, and_other, not_false, not_of_true, not_both}
use Rattle.rules.proofs.Lists.{All, all_map, any_none, none_any}

pub record Short (e : Event) : Type 0 where
  pub payload : length e.payload ≤ 16

pub record Known (n : ℕ) (e : Event) : Type 0 where
  pub source : e.source < n
  pub destination : e.destination < n

pub record Joined (n : ℕ) (e : Edge) : Type 0 where
  pub source : e.source < n
  pub destination : e.destination < n

-- A.4: an edge's lookahead is above 0.
abbrev pub Ahead : Edge → Type 0
Ahead e = 0 < e.lookahead

-- The facts, by the parts of the state that they speak of.
pub record Sized (n lookahead : ℕ) (hs : List ℕ) : Type 0 where
  pub some : 0 < n
  pub few : n ≤ 64
  pub ahead : 0 < lookahead
  pub wide : length hs ≡ n

pub record Wired (n : ℕ) (es : List Edge) : Type 0 where
  pub few : length es ≤ 512
  pub joined : All (Joined n) es
  pub once : duplicate_or_self_edges es ≡ false
  pub ahead : All Ahead es

pub record Queued (n next : ℕ) (q : List Event) : Type 0 where
  pub few : length q ≤ 512
  pub short : All Short q
  pub known : All (Known n) q
  pub order : rising before q ≡ true
  pub numbers : All (λ (e : Event). e.sequence < next) q

pub record Held (n : ℕ) (bs : List Event) : Type 0 where
  pub few : length bs ≤ 64
  pub short : All Short bs
  pub known : All (Known n) bs
  pub order : rising by_process bs ≡ true

pub record Runs (limits : Stored) (bs : List Event) (running : Bool) : Type 0 where
  pub below : horizon_is_max limits ≡ false
  pub stored : running && is_unset limits ≡ false
  pub opened : non_empty bs && not running ≡ false

-- A.2's record m is right of the edges es.
pub record Recorded (n : ℕ) (m : List ℕ) (es : List Edge) : Type 0 where
  pub wide : length m ≡ n
  pub right : All (λ p. recorded m p ≡ least_inbound es p) (up_to n)

pub record Shaped (s : State) : Type 0 where
  pub sized : Sized s.n s.lookahead s.horizons
  pub wired : Wired s.n s.edges
  pub queued : Queued s.n s.next s.pending
  pub held : Held s.n s.batch
  pub runs : Runs s.stored s.batch s.running
  pub recorded : Recorded s.n s.inbound s.edges

long_short : (e : Event) → long_payload e ≡ false → Short e
long_short e h = record { payload = ltb-false 16 (length e.payload) h }

short_long : (e : Event) → Short e → long_payload e ≡ false
short_long e h = le-ltb 16 (length e.payload) h.payload

unknown_known : (n : ℕ) (e : Event) → unknown_id_event n e ≡ false → Known n e
unknown_known n e h = record { source = leb-false n _ (or_left (leb n e.source) (leb n e.destination) h); destination = leb-false n _ (or_right (leb n e.source) (leb n e.destination) h) }

known_unknown : (n : ℕ) (e : Event) → Known n e → unknown_id_event n e ≡ false
known_unknown n e h = or_both (leb n e.source) (leb n e.destination) (lt-leb n _ h.source) (lt-leb n _ h.destination)

unknown_joined : (n : ℕ) (e : Edge) → unknown_id_edge n e ≡ false → Joined n e
unknown_joined n e h = record { source = leb-false n _ (or_left (leb n e.source) (leb n e.destination) h); destination = leb-false n _ (or_right (leb n e.source) (leb n e.destination) h) }

joined_unknown : (n : ℕ) (e : Edge) → Joined n e → unknown_id_edge n e ≡ false
joined_unknown n e h = or_both (leb n e.source) (leb n e.destination) (lt-leb n _ h.source) (lt-leb n _ h.destination)

without_ahead : (e : Edge) → without_lookahead e ≡ false → Ahead e
without_ahead e h = let z : (e.lookahead ≡ 0 → ⊥) = eqb-false e.lookahead 0 h in omega arith

ahead_without : (e : Edge) → Ahead e → without_lookahead e ≡ false
ahead_without e h = ne_eqb e.lookahead 0 (λ x. omega arith)

-- From a test of every element to a fact of every element, and back.
told : {A : Type 0} (f : A → Bool) (P : A → Type 0) → ((a : A) → f a ≡ false → P a) → (xs : List A) → any f xs ≡ false → All P xs
told f P g xs h = all_map (λ x. f x ≡ false) P g xs (any_none f xs h)

tells : {A : Type 0} (f : A → Bool) (P : A → Type 0) → ((a : A) → P a → f a ≡ false) → (xs : List A) → All P xs → any f xs ≡ false
tells f P g xs i = none_any f xs (all_map P (λ x. f x ≡ false) g xs i)

-- Whatever of several tests failed.
pub alls : (ts : List Bool) → any_of ts ≡ false → All (λ (t : Bool). t ≡ false) ts
unfolding any_of
alls ts h = any_none (λ t. t) ts h

none_of : (ts : List Bool) → All (λ (t : Bool). t ≡ false) ts → any_of ts ≡ false
unfolding any_of
none_of ts i = none_any (λ t. t) ts i

pub shaped : (s : State) → foreign s ≡ false → Shaped s
unfolding foreign over_limit unknown_id wrong_record
shaped s h =
    let c = alls (clauses s) h in
    let l = alls (ltb 512 (length s.edges) ∷ ltb 512 (length s.pending) ∷ ltb 64 (length s.batch) ∷ any long_payload s.pending ∷ any long_payload s.batch ∷ []) c.1.1.0 in
    let k = alls (any (unknown_id_edge s.n) s.edges ∷ any (unknown_id_event s.n) s.pending ∷ any (unknown_id_event s.n) s.batch ∷ []) c.1.1.1.0 in
    record {
      sized = record {
        some = let x : eqb s.n 0 ≡ false = or_left (eqb s.n 0) (ltb 64 s.n) c.0 in let z : (s.n ≡ 0 → ⊥) = eqb-false s.n 0 x in omega arith;
        few = ltb-false 64 s.n (or_right (eqb s.n 0) (ltb 64 s.n) c.0);
        ahead = let z : (s.lookahead ≡ 0 → ⊥) = eqb-false s.lookahead 0 c.1.0 in omega arith;
        wide = eqb-true (length s.horizons) s.n (not_false _ c.1.1.1.1.1.1.1.1.1.1.1.1.1.0);
      };
      wired = record { few = ltb-false 512 _ l.0; joined = told (unknown_id_edge s.n) (Joined s.n) (unknown_joined s.n) s.edges k.0; once = c.1.1.1.1.0; ahead = told without_lookahead Ahead without_ahead s.edges c.1.1.1.1.1.1.1.1.1.1.1.1.0 };
      queued = record {
        few = ltb-false 512 _ l.1.0;
        short = told long_payload Short long_short s.pending l.1.1.1.0;
        known = told (unknown_id_event s.n) (Known s.n) (unknown_known s.n) s.pending k.1.0;
        order = not_false _ c.1.1.1.1.1.0;
        numbers = told (λ (e : Event). leb s.next e.sequence) (λ (e : Event). e.sequence < s.next) (λ e x. leb-false s.next e.sequence x) s.pending c.1.1.1.1.1.1.0;
      };
      held = record {
        few = ltb-false 64 _ l.1.1.0;
        short = told long_payload Short long_short s.batch l.1.1.1.1.0;
        known = told (unknown_id_event s.n) (Known s.n) (unknown_known s.n) s.batch k.1.1.0;
        order = not_false _ c.1.1.1.1.1.1.1.1.1.1.0;
      };
      runs = record { below = c.1.1.1.1.1.1.1.0; stored = c.1.1.1.1.1.1.1.1.0; opened = c.1.1.1.1.1.1.1.1.1.0 };
      recorded = record {
        wide = eqb-true (length s.inbound) s.n (not_false _ c.1.1.1.1.1.1.1.1.1.1.1.1.1.1.0);
        right = told (λ p. not (eqb (recorded s.inbound p) (least_inbound s.edges p))) (λ p. recorded s.inbound p ≡ least_inbound s.edges p) (λ p x. eqb-true _ _ (not_false _ x)) (up_to s.n) c.1.1.1.1.1.1.1.1.1.1.1.0;
      };
    }

pub passes_11 : (s : State) → Shaped s → foreign s ≡ false
unfolding foreign over_limit unknown_id wrong_record
passes_11 s i =
    none_of (clauses s) (
      or_both (eqb s.n 0) (ltb 64 s.n) (ne_eqb s.n 0 (λ e. omega (arith, i.sized.some))) (le-ltb 64 s.n i.sized.few),
      (
        ne_eqb s.lookahead 0 (λ e. omega (arith, i.sized.ahead)),
        (
          none_of _ (le-ltb 512 _ i.wired.few, (le-ltb 512 _ i.queued.few, (le-ltb 64 _ i.held.few, (tells long_payload Short short_long s.pending i.queued.short, (tells long_payload Short short_long s.batch i.held.short, tt))))),
          (
            none_of _ (tells (unknown_id_edge s.n) (Joined s.n) (joined_unknown s.n) s.edges i.wired.joined, (tells (unknown_id_event s.n) (Known s.n) (known_unknown s.n) s.pending i.queued.known, (tells (unknown_id_event s.n) (Known s.n) (known_unknown s.n) s.batch i.held.known, tt))),
            (
              i.wired.once,
              (
                not_of_true _ i.queued.order,
                (
                  tells (λ (e : Event). leb s.next e.sequence) (λ (e : Event). e.sequence < s.next) (λ e x. lt-leb s.next e.sequence x) s.pending i.queued.numbers,
                  (
                    i.runs.below,
                    (
                      i.runs.stored,
                      (
                        i.runs.opened,
                        (
                          not_of_true _ i.held.order,
                          (
                            tells (λ p. not (eqb (recorded s.inbound p) (least_inbound s.edges p))) (λ p. recorded s.inbound p ≡ least_inbound s.edges p) (λ p x. not_of_true _ (eq-eqb _ _ x)) (up_to s.n) i.recorded.right,
                            (
                              tells without_lookahead Ahead ahead_without s.edges i.wired.ahead,
                              (not_of_true _ (eq-eqb (length s.horizons) s.n i.sized.wide), (not_of_true _ (eq-eqb (length s.inbound) s.n i.recorded.wide), tt)),
                            ),
                          ),
                        ),
                      ),
                    ),
                  ),
                ),
              ),
            ),
          ),
        ),
      ),
    )

-- A batch has an open run, and an open run a horizon.
unset_is : (l : Stored) → l ≡ unset → is_unset l ≡ true
unfolding is_unset
unset_is l e = ap is_unset e

pub no_horizon_never {κ} : {C : Type κ} (s : State) → Shaped s → non_empty s.batch ≡ true → s.stored ≡ unset → C
no_horizon_never s w b e =
    let r : s.running ≡ true = not_false s.running (and_other (non_empty s.batch) (not s.running) b w.runs.opened) in
    not_both (unset_is s.stored e) (and_other s.running (is_unset s.stored) r w.runs.stored)

-- A stored horizon is below the largest tick.
pub below_top : (l : Stored) (h b : ℕ) → l ≡ stored h b → horizon_is_max l ≡ false → suc h ≤ max_tick
unfolding horizon_is_max
below_top l h b e a = leb-false max_tick h (ap horizon_is_max (sym e) ∙ a)
