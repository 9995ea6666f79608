-- An emission stored in eight words, and lists of them.
use Prim.Native.Nat.{ℕ, ◌+◌, ◌*◌, ◌^◌, ◌<◌, ◌≤◌}
use mathlib.Core.Path.{◌≡◌, refl, sym, ap, subst, ◌∙◌}
use mathlib.Core.Bool.{Bool}
use mathlib.Core.List.{List, ◌++◌, append_assoc}
use native.Mathlib.Omega.{arith}
use lib.ListN.{length, get_or, set, take, drop, length-append, length-drop}
use lib.Seq.{take_at, take-take, drop_at, get_or-take, length-take-le}
use mir.Val.{Val}
use denote.Laws.{Is}
use denote.Struct.Declared.{row}
use denote.Struct.Laws as SL
use Rattle.types.specs.declared.LpId.{LpId}
use Rattle.types.specs.Value.{halves, ticks_of, lp_id_of, id_of_word}
use Rattle.types.proofs.Ids.{id_of_small}
use Rattle.types.proofs.Owned.{lp_id_fits}
use Rattle.words.specs.Words.{tab, tick_at}
use Rattle.words.proofs.Tab.{tab_cong}
use Rattle.records.specs.declared.Record.{Record}
use Rattle.records.specs.Records.{payload_of, record_in, words_of, put_record}
use Rattle.records.proofs.Stored.{record_cong, record_same, eight_stores}
use Rattle.rules.specs.HandBack as rules
use Rattle.reply_words.specs.declared.Emission.{Emission}
use Rattle.reply_words.specs.Emissions.{emission_of, emission_in, emission_at}
use Rattle.reply_words.specs.contracts.Emission as T
use Rattle.reply_words.proofs.Emission.TheLaws as T'
use Rattle.plan_file.specs.Like.{LikeEmission}
use Rattle.plan_reader.specs.declared.MessageAt.{MessageAt}
use Rattle.plan_reader.specs.Read.{MessageRead}
use Rattle.plan_reader.specs.Written.{Puts, emitted, EmissionWritten}

-- The ids of an emission in the program's hands fit 32 bits.
pub record IdsFit (e : Emission) : Type 0 where
  pub emitter : lp_id_of e.emitter < 2 ^ 32
  pub source : lp_id_of e.source < 2 ^ 32
  pub destination : lp_id_of e.destination < 2 ^ 32

pub ids_fit : (e : Emission) (vs : List Val) → Is (row T.the_type) e vs → IdsFit e
ids_fit e vs g =
    let o = SL.owed T.the_type T'.the_laws e vs g in
    record { emitter = lp_id_fits e.emitter _ o.0; source = lp_id_fits e.source _ o.1.0; destination = lp_id_fits e.destination _ o.1.1.0 }

-- The emission of eight words, by the record that they would be as an event.
abbrev of_words : Record → rules.Emission
of_words k = record { emitter = id_of_word k.destination; message = record { source = id_of_word k.hi; destination = id_of_word k.lo; tick = halves k.source k.sequence; payload = payload_of k.len k.payload_hi k.payload_lo } }

emission_is : (w : List ℕ) (at : ℕ) → emission_in w at ≡ of_words (record_in w at)
unfolding emission_in record_in tick_at
emission_is w at = let n : at + 3 + 1 ≡ at + 4 = omega arith in rw n

-- Eight stores, with the ids as words.
module _ (w : List ℕ) (at : ℕ) (e : Emission) (fit : IdsFit e) (h : at + 8 ≤ length w) (a b d : ℕ) (ea : a ≡ lp_id_of e.emitter) (eb : b ≡ lp_id_of e.source) (ed : d ≡ lp_id_of e.destination) where
  abbrev r : Record
  r = record { destination = a; hi = b; lo = d; source = e.tick.hi; sequence = e.tick.lo; len = e.len; payload_hi = e.payload_hi; payload_lo = e.payload_lo }

  abbrev u : List ℕ
  u = put_record w at r

  front : length (take at w) ≡ at
  front = length-take-le at w (omega arith)

  is : record_in u at ≡ r
  is = record_same w at r h

  stored : emission_in u at ≡ emission_of e
  stored =
      let x : id_of_word a ≡ lp_id_of e.emitter = ap id_of_word ea ∙ id_of_small _ fit.emitter in
      let y : id_of_word b ≡ lp_id_of e.source = ap id_of_word eb ∙ id_of_small _ fit.source in
      let z : id_of_word d ≡ lp_id_of e.destination = ap id_of_word ed ∙ id_of_small _ fit.destination in
      let m : of_words r ≡ emission_of e
      = λ i. record { emitter = x i; message = record { source = y i; destination = z i; tick = ticks_of e.tick; payload = payload_of e.len e.payload_hi e.payload_lo } } in
      emission_is u at ∙ ap of_words is ∙ m

  puts : Puts w at e u
  unfolding put_record
  puts =
      let l : length (take at w ++ words_of r) ≡ at + 8 = length-append (take at w) (words_of r) ∙ ap (λ (k : ℕ). k + 8) front in
      let f : drop (at + 8) ((take at w ++ words_of r) ++ drop (at + 8) w) ≡ drop (at + 8) w = drop_at (take at w ++ words_of r) (drop (at + 8) w) (at + 8) l in
      let g : length (take at w ++ (words_of r ++ drop (at + 8) w)) ≡ length w = rw (length-append, front, length-append, length-drop) (omega arith) in
      record {
        stored = stored;
        before = take_at (take at w) (words_of r ++ drop (at + 8) w) at front;
        behind = rw append_assoc at f;
        size = g;
      }

  pub eight_puts : Puts w at e (set (set (set (set (set (set (set (set w at a) (at + 1) b) (at + 2) d) (at + 3) e.tick.hi) (at + 4) e.tick.lo) (at + 5) e.len) (at + 6) e.payload_hi) (at + 7) e.payload_lo)
  eight_puts = subst (λ (k : List ℕ). Puts w at e k) (sym (eight_stores w at r h)) puts

-- Words up to n that stayed: so did the emissions in them.
module _ (n : ℕ) (u w : List ℕ) (e : take n u ≡ take n w) where
  word_stays : (k : ℕ) → k < n → get_or u k 0 ≡ get_or w k 0
  word_stays k h = sym (get_or-take n u k 0 h) ∙ ap (λ (l : List ℕ). get_or l k 0) e ∙ get_or-take n w k 0 h

  pub emission_stays : (j : ℕ) → 8 * j + 8 ≤ n → emission_at u j ≡ emission_at w j
  unfolding emission_at
  emission_stays j h = emission_is u (8 * j) ∙ ap of_words (record_cong u w (8 * j) (8 * j) (λ k l. word_stays (8 * j + k) (omega arith))) ∙ sym (emission_is w (8 * j))

  pub emissions_stay : (i k : ℕ) → 8 * (i + k) ≤ n → tab (emission_at u) i k ≡ tab (emission_at w) i k
  emissions_stay i k h = tab_cong _ _ i k (λ j a b. emission_stays j (omega arith))

  pub front_stays : (k : ℕ) → k ≤ n → take k u ≡ take k w
  front_stays k h = sym (take-take k n u h) ∙ ap (take k) e ∙ take-take k n w h

-- The message read becomes an emission.
pub written : (b : List Bool) (at : ℕ) (q : LpId) (w : List ℕ) (slot : ℕ) (u : List ℕ) (r : MessageAt) → MessageRead b at r
    → Puts w (8 * slot) (record { emitter = q; source = r.message.source; destination = r.message.destination; tick = r.message.tick; len = r.message.len; payload_hi = r.message.payload_hi; payload_lo = r.message.payload_lo }) u
    → EmissionWritten b at q w slot u r.next
unfolding emission_at
written b at q w slot u r m p = record {
  like = λ x behind e. subst (λ (k : rules.Emission). LikeEmission (emitted (lp_id_of q) x) k) (sym p.stored) (record { emitter = refl; message = m.like x behind e });
  ends = m.next;
  inside = m.inside;
  before = p.before;
  size = p.size;
}
