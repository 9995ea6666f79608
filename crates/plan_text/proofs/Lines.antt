-- Lines from their parts.
use mathlib.Core.Path.{◌≡◌, refl, sym, ap, ◌∙◌, subst}
use mathlib.Core.List.{List, [], ◌∷◌, ◌++◌, append-nil, append_assoc}
use Prim.Native.Nat.{ℕ, ◌+◌, ◌-◌, ◌*◌, ◌≤◌, ◌<◌}
use native.Mathlib.Omega.{arith}
use lib.ListN.{length, take, drop, set, length-drop, drop_of_length-le}
use lib.Seq.{take_all}
use Rattle.rules.specs.State.{Event}
use Rattle.types.specs.declared.SimTime.{SimTime}
use Rattle.types.specs.Value.{ticks_of}
use Rattle.records.specs.declared.Record.{Record}
use Rattle.records.specs.Records.{event_of, record_in, event_at, events_of}
use Rattle.words.specs.Words.{tab}
use Rattle.words.proofs.Tab.{tab_push}
use Rattle.plan_rules.specs.Text.{decimal, hexadecimal, space, feed}
use Rattle.plan_rules.specs.Listing.{event_line, event_lines, end_line}
use Rattle.plan_text.specs.Appends.{Appends, shown}
use Rattle.plan_text.specs.Prepends.{Prepends}
use Rattle.plan_text.proofs.Digits.{hexadecimal_halves}
use Rattle.plan_text.proofs.Fronts.{prepend_both, prepend_behind}
use Rattle.plan_text.proofs.Appending.{append_both}

-- A tick: both halves, and a space behind them.
pub put_tick_halves : (a b c : List ℕ) (t : SimTime) (end middle r : ℕ) → t.lo < 18446744073709551616 → 0 < end → end ≤ length a
    → Prepends (set a (end - 1) space) (end - 1) (hexadecimal 16 t.lo) b middle → Prepends b middle (hexadecimal 16 t.hi) c r
    → Prepends a end (hexadecimal 32 (ticks_of t) ++ (space ∷ [])) c r
put_tick_halves a b c t end middle r top h l p q =
    rw (hexadecimal_halves t.hi t.lo top)
    (prepend_behind a c (hexadecimal 16 t.hi ++ hexadecimal 16 t.lo) space end r h l (prepend_both (set a (end - 1) space) b c (hexadecimal 16 t.hi) (hexadecimal 16 t.lo) (end - 1) middle r p q))

-- The whole of an array that was empty at its end: what stands from r on.
all_of_it : (a c text : List ℕ) (end r : ℕ) → length a ≤ end → Prepends a end text c r → drop r c ≡ text
all_of_it a c text end r h p = p.stands ∙ ap (λ (v : List ℕ). text ++ v) (drop_of_length-le a h) ∙ append-nil text

-- The line of an event: source, tick, process.
pub event_line_holds : (z a b c : List ℕ) (process tick source end third second first : ℕ) → length z ≤ end
    → Prepends z end (decimal source ++ (feed ∷ [])) a third → Prepends a third (hexadecimal 32 tick ++ (space ∷ [])) b second → Prepends b second (decimal process ++ (space ∷ [])) c first
    → drop first c ≡ event_line (shown process tick source)
unfolding event_line
event_line_holds z a b c process tick source end third second first h p q r =
    let t = decimal source ++ (feed ∷ []) in
    let u = hexadecimal 32 tick ++ (space ∷ []) in
    let v = decimal process ++ (space ∷ []) in
    all_of_it z c (v ++ (u ++ t)) end first h (prepend_both z b c v (u ++ t) end second first (prepend_both z a b u t end third second p q) r) ∙ simp append_assoc

-- The last line: null messages, rounds, GVT, number, `end`.
pub end_line_holds : (z a b c d e : List ℕ) (k gvt rounds nulls end fifth fourth third second first : ℕ) → length z ≤ end
    → Prepends z end (decimal nulls ++ (feed ∷ [])) a fifth → Prepends a fifth (decimal rounds ++ (space ∷ [])) b fourth → Prepends b fourth (hexadecimal 32 gvt ++ (space ∷ [])) c third
    → Prepends c third (decimal k ++ (space ∷ [])) d second → Prepends d second (101 ∷ 110 ∷ 100 ∷ space ∷ []) e first
    → drop first e ≡ end_line k gvt rounds nulls
unfolding end_line
end_line_holds z a b c d e k gvt rounds nulls end fifth fourth third second first h p q r s t =
    let n = decimal nulls ++ (feed ∷ []) in
    let m = decimal rounds ++ (space ∷ []) in
    let g = hexadecimal 32 gvt ++ (space ∷ []) in
    let x = decimal k ++ (space ∷ []) in
    let y : List ℕ = 101 ∷ 110 ∷ 100 ∷ space ∷ [] in
    let f = prepend_both z a b m n end fifth fourth p q in
    let i = prepend_both z b c g (m ++ n) end fourth third f r in
    let j = prepend_both z c d x (g ++ (m ++ n)) end third second i s in
    all_of_it z e (y ++ (x ++ (g ++ (m ++ n)))) end first h (prepend_both z d e y (x ++ (g ++ (m ++ n))) end second first j t) ∙ simp append_assoc

-- Lines of a batch: one event more.
lines_push : (es : List Event) (e : Event) → event_lines (es ++ (e ∷ [])) ≡ event_lines es ++ event_line e
unfolding event_lines
lines_push [] e = append-nil (event_line e)
lines_push (x ∷ es) e = ap (λ (v : List ℕ). event_line x ++ v) (lines_push es e) ∙ sym (append_assoc (event_line x) (event_lines es) (event_line e))

pub batch_more : (w old out new : List ℕ) (i at end r tick : ℕ) (x : Record) → x ≡ record_in w (8 * i) → tick ≡ (event_of x).tick → Appends old at (event_lines (events_of i w)) out end
    → Appends out end (event_line (shown x.destination tick x.source)) new r → Appends old at (event_lines (events_of (i + 1) w)) new r
batch_more w old out new i at end r tick x e t p q =
    rw (tab_push (event_at w) i, lines_push (events_of i w) (event_at w i))
    (append_both old out new (event_lines (events_of i w)) (event_line (event_at w i)) at end r p (subst (λ (l : List ℕ). Appends out end l new r) same q))
  where
    same : event_line (shown x.destination tick x.source) ≡ event_line (event_at w i)
    same = unfold event_line event_at in rw (t, e)

pub batch_none : (w : List ℕ) → event_lines (events_of 0 w) ≡ []
unfolding event_lines tab
batch_none w = refl

-- What append was lent: the array from the line's first byte to its end.
pub append_line : (c line out new : List ℕ) (first n at r : ℕ) → length c ≤ n → drop first c ≡ line → Appends out at (take (n - first) (drop first c)) new r → Appends out at line new r
append_line c line out new first n at r l e p =
    let h : length (drop first c) ≤ n - first = simp length-drop (omega arith) in
    subst (λ (v : List ℕ). Appends out at v new r) (take_all (n - first) (drop first c) h ∙ e) p
