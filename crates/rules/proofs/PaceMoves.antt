-- How the counts move with each kind of call, and that they still fit.
use mathlib.Core.Path.{◌≡◌, refl, sym, ◌∙◌}
use mathlib.Core.Bool.{Bool, true, false}
use mathlib.Core.List.{List, ◌∷◌}
use Prim.Native.Nat.{ℕ, suc, ◌+◌, ◌-◌, ◌*◌, ◌≤◌, ◌<◌, min, max}
use native.Mathlib.Omega.{arith}
use native.Mathlib.Nat.{zero-add}
use lib.Dec.{leb}
use lib.ListN.{length}
use Rattle.rules.specs.Base.{if◌then◌otherwise◌, count, every}
use Rattle.rules.specs.State.{Edge, Stored, stored}
use Rattle.rules.specs.History.{Entry, horizon, is_advanced, begins, commits, R, H, in_hand, handled, null_message_count}
use Rattle.rules.proofs.Tests.{not_both}
use Rattle.rules.proofs.Lists.{All}
use Rattle.rules.proofs.Fronts.{low_more, LooksFrom}
use Rattle.rules.proofs.Pace.{Counts, counts_of, sends, lifts, end_of, front, Pace}

-- The counts with one call more: whether it is an accepted begin, an Advanced answer, a hand back that commits; its horizon, its raises, how many were in hand.
unfoldable grown : Bool → Bool → Bool → ℕ → ℕ → ℕ → Counts → Counts
grown b a c h r n k = record {
  runs = (if b then 1 otherwise 0) + k.runs;
  end = if b then suc h otherwise k.end;
  handled = (if c then n otherwise 0) + k.handled;
  commits = (if c then 1 otherwise 0) + k.commits;
  advances = (if a then 1 otherwise 0) + k.advances;
  null_messages = (if a then r otherwise 0) + k.null_messages;
  sends = (if a then min r 1 otherwise 0) + k.sends;
  lifts = (if a then 1 - r otherwise 0) + k.lifts;
}

counts_more : (e : Entry) (es : List Entry) → counts_of (e ∷ es) ≡ grown (begins e) (is_advanced e.answer) (commits e) (horizon e.call) e.raises (length (in_hand es)) (counts_of es)
unfolding grown counts_of R H handled null_message_count sends lifts count
counts_more e es = refl

-- The counts after an accepted begin, after an Advanced answer for which r bounds rose, and after a hand back that commits n events.
abbrev pub begun : Counts → ℕ → Counts
begun k h = record { runs = 1 + k.runs; end = suc h; handled = k.handled; commits = k.commits; advances = k.advances; null_messages = k.null_messages; sends = k.sends; lifts = k.lifts }

abbrev pub moved : Counts → ℕ → Counts
moved k r = record { runs = k.runs; end = k.end; handled = k.handled; commits = k.commits; advances = 1 + k.advances; null_messages = r + k.null_messages; sends = min r 1 + k.sends; lifts = (1 - r) + k.lifts }

abbrev pub returned : Counts → ℕ → Counts
returned k n = record { runs = k.runs; end = k.end; handled = n + k.handled; commits = 1 + k.commits; advances = k.advances; null_messages = k.null_messages; sends = k.sends; lifts = k.lifts }

module _ (h r n : ℕ) (k : Counts) where
  grown_quiet : grown false false false h r n k ≡ k
  unfolding grown if◌then◌otherwise◌
  grown_quiet = rw (zero-add k.runs, zero-add k.handled, zero-add k.commits, zero-add k.advances, zero-add k.null_messages, zero-add k.sends, zero-add k.lifts) refl

  grown_begun : grown true false false h r n k ≡ begun k h
  unfolding grown if◌then◌otherwise◌
  grown_begun = rw (zero-add k.handled, zero-add k.commits, zero-add k.advances, zero-add k.null_messages, zero-add k.sends, zero-add k.lifts) refl

  grown_moved : grown false true false h r n k ≡ moved k r
  unfolding grown if◌then◌otherwise◌
  grown_moved = rw (zero-add k.runs, zero-add k.handled, zero-add k.commits) refl

  grown_returned : grown false false true h r n k ≡ returned k n
  unfolding grown if◌then◌otherwise◌
  grown_returned = rw (zero-add k.runs, zero-add k.advances, zero-add k.null_messages, zero-add k.sends, zero-add k.lifts) refl

-- What a call is, by the three tests.
pub record Kind (e : Entry) (b a c : Bool) : Type 0 where
  pub begins : begins e ≡ b
  pub advanced : is_advanced e.answer ≡ a
  pub commits : commits e ≡ c

counts_kind : (e : Entry) (es : List Entry) (b a c : Bool) → Kind e b a c → counts_of (e ∷ es) ≡ grown b a c (horizon e.call) e.raises (length (in_hand es)) (counts_of es)
counts_kind e es b a c i = rw (sym i.begins, sym i.advanced, sym i.commits) (counts_more e es)

pub counts_quiet : (e : Entry) (es : List Entry) → Kind e false false false → counts_of (e ∷ es) ≡ counts_of es
counts_quiet e es i = counts_kind e es false false false i ∙ grown_quiet (horizon e.call) e.raises (length (in_hand es)) (counts_of es)

pub counts_begun : (e : Entry) (es : List Entry) → Kind e true false false → counts_of (e ∷ es) ≡ begun (counts_of es) (horizon e.call)
counts_begun e es i = counts_kind e es true false false i ∙ grown_begun (horizon e.call) e.raises (length (in_hand es)) (counts_of es)

pub counts_moved : (e : Entry) (es : List Entry) → Kind e false true false → counts_of (e ∷ es) ≡ moved (counts_of es) e.raises
counts_moved e es i = counts_kind e es false true false i ∙ grown_moved (horizon e.call) e.raises (length (in_hand es)) (counts_of es)

pub counts_returned : (e : Entry) (es : List Entry) → Kind e false false true → counts_of (e ∷ es) ≡ returned (counts_of es) (length (in_hand es))
counts_returned e es i = counts_kind e es false false true i ∙ grown_returned (horizon e.call) e.raises (length (in_hand es)) (counts_of es)

-- Fronts that move while the counts stay.
pub pace_stay : (k : Counts) (L : ℕ) (es fs : List Edge) (hs gs : List ℕ) (l : Stored) → Pace k L es hs l → length fs ≡ length es → front k.end L es ≤ front k.end L fs → (every (leb k.end) hs ≡ true → every (leb k.end) gs ≡ true) → All (LooksFrom L) fs → Pace k L fs gs l
pace_stay k L es fs hs gs l i ns up st a = record {
  end = i.end;
  sent = omega (arith, i.sent);
  sending = λ h. omega (arith, i.sending (omega arith));
  lifted = i.lifted;
  lifting = λ h. i.lifting (stays (every (leb k.end) hs) (every (leb k.end) gs) st h);
  null_messages = rw ns i.null_messages;
  advances = i.advances;
  commits = i.commits;
  looks = a;
}
  where
    stays : (a b : Bool) → (a ≡ true → b ≡ true) → b ≡ false → a ≡ false
    stays true b f h = not_both (f refl) h
    stays false b f h = refl

-- A begin: the end does not fall, and one run more pays for a send and a lift.
pub pace_begun : (k : Counts) (L h b : ℕ) (es : List Edge) (hs : List ℕ) (l : Stored) → Pace k L es hs l → k.end ≤ suc h → Pace (begun k h) L es hs (stored h b)
unfolding end_of
pace_begun k L h b es hs l i up =
    let m : front k.end L es ≤ front (suc h) L es = low_more es (max k.end L) (max (suc h) L) (omega arith) in
    record {
      end = refl;
      sent = omega (arith, i.sent);
      sending = λ _. omega (arith, i.sent);
      lifted = omega (arith, i.lifted);
      lifting = λ _. omega (arith, i.lifted);
      null_messages = i.null_messages;
      advances = i.advances;
      commits = i.commits;
      looks = i.looks;
    }

-- Some bound rose: the front was below the end, and rose by the lookahead or to the end.
pub pace_sent : (k : Counts) (L r : ℕ) (es fs : List Edge) (gs : List ℕ) (l : Stored) → (k.sends + 2) * L ≤ front k.end L es + k.runs * L → 0 < r → r ≤ length es → length fs ≡ length es → front k.end L es ≤ front k.end L fs → min k.end (front k.end L es + L) ≤ front k.end L fs → Pace k L fs gs l → Pace (moved k r) L fs gs l
pace_sent k L r es fs gs l s rp rl ns grow far j =
    let o : min r 1 ≡ 1 = omega arith in
    let z : 1 - r ≡ 0 = omega arith in
    record {
      end = j.end;
      sent = rw o (omega (arith, s, j.sent));
      sending = λ h. rw o (omega (arith, s, j.sending h));
      lifted = omega (arith, j.lifted);
      lifting = λ h. omega (arith, j.lifting h);
      null_messages = rw o (omega (arith, j.null_messages));
      advances = omega (arith, j.advances);
      commits = j.commits;
      looks = j.looks;
    }

-- No bound rose: the local horizons did, and are at the end now.
pub pace_lift : (k : Counts) (L : ℕ) (fs : List Edge) (gs : List ℕ) (l : Stored) → k.lifts + 1 ≤ k.runs → every (leb k.end) gs ≡ true → Pace k L fs gs l → Pace (moved k 0) L fs gs l
pace_lift k L fs gs l lifting now j = record {
  end = j.end;
  sent = omega (arith, j.sent);
  sending = λ h. omega (arith, j.sending h);
  lifted = omega arith;
  lifting = λ h. not_both now h;
  null_messages = omega (arith, j.null_messages);
  advances = omega (arith, j.advances);
  commits = j.commits;
  looks = j.looks;
}

-- A hand back that commits handled at least one event.
pub pace_returned : (k : Counts) (L n : ℕ) (es : List Edge) (hs : List ℕ) (l : Stored) → 0 < n → Pace k L es hs l → Pace (returned k n) L es hs l
pace_returned k L n es hs l p i = record {
  end = i.end;
  sent = i.sent;
  sending = i.sending;
  lifted = i.lifted;
  lifting = i.lifting;
  null_messages = i.null_messages;
  advances = i.advances;
  commits = omega (arith, i.commits);
  looks = i.looks;
}
