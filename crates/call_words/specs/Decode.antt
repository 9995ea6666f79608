-- What words say as calls: docs/CALLS.md, tags 0 to 3. Reading past the end gives zeros, so a call that breaks off is one of more words than there are.
use Rattle.std.specs.Prelude.{◌≡◌, List, [], ◌∷◌, ℕ, zero, suc, ◌+◌, ◌*◌, ◌<◌, ltb, eqb, length, get_or, drop, Option, MatchOption}
use Rattle.rules.specs.Base.{if◌then◌otherwise◌}
use Rattle.rules.specs.State.{Message}
use Rattle.rules.specs.Calls.{Call, AddInitial, Begin, Step, HandBack}
use Rattle.types.specs.Value.{id_of_word}
use Rattle.words.specs.Words.{tick_at}
use Rattle.records.specs.Records.{payload_of}
use Rattle.reply_words.specs.Emissions.{emissions_of}

-- What stands at a place: nothing that can be decoded, or a call and how many words it takes.
pub data Decoded : Type 0 where
  Nothing : Decoded
  Decodes : Call → ℕ → Decoded

-- "source, destination, tick (2), payload length, payload (2)"; "of an id word the lower half counts".
unfoldable pub message_at : List ℕ → ℕ → Message
message_at w at = record {
  source = id_of_word (get_or w at 0);
  destination = id_of_word (get_or w (at + 1) 0);
  tick = tick_at w (at + 2);
  payload = payload_of (get_or w (at + 4) 0) (get_or w (at + 5) 0) (get_or w (at + 6) 0);
}

-- The call k of n words, if so many are there.
unfoldable pub if_complete : List ℕ → ℕ → Call → ℕ → Decoded
if_complete w at k n = if ltb (length w) (at + n) then Nothing otherwise Decodes k n

-- A hand back of n emissions.
unfoldable pub hand_back_at : List ℕ → ℕ → ℕ → Call
hand_back_at w at n = HandBack (get_or w (at + 1) 0) (emissions_of n (drop (at + 3) w))

-- "more than 4,096 .. emissions .. of one list" cannot be decoded.
abbrev pub max_items : ℕ
max_items = 4096

unfoldable pub hand_back_in : List ℕ → ℕ → ℕ → Decoded
hand_back_in w at n = if ltb max_items n then Nothing otherwise if_complete w at (hand_back_at w at n) (3 + 8 * n)

unfoldable pub decode : List ℕ → ℕ → Decoded
decode w at =
    let tag = get_or w at 0 in
    let n = get_or w (at + 2) 0 in
    if eqb tag 0 then if_complete w at (AddInitial (message_at w (at + 1))) 8
    otherwise if eqb tag 1 then if_complete w at (Begin (tick_at w (at + 1)) (get_or w (at + 3) 0)) 4
    otherwise if eqb tag 2 then if_complete w at Step 1
    otherwise if eqb tag 3 then hand_back_in w at n
    otherwise Nothing

-- How many words it takes; 0 for nothing.
abbrev pub size : Decoded → ℕ
size Nothing = 0
size (Decodes k n) = n

-- r is how many words it takes, where it is a call.
abbrev pub IsSizeOf : Option ℕ → Decoded → Type 0
IsSizeOf r d = MatchOption r (size d ≡ 0) (λ n. (0 < n) × (n ≡ size d))

-- Any call of n words takes r of them at that place: n, or 0 if so many are not there.
abbrev pub Sizes : List ℕ → ℕ → ℕ → ℕ → Type 0
Sizes w at n r = (k : Call) → r ≡ size (if_complete w at k n)

-- The call; a step stands for nothing.
abbrev pub call_of : Decoded → Call
call_of Nothing = Step
call_of (Decodes k n) = k

-- The calls of the words from `at` on, at most `most` of them: what cannot be decoded ends them.
unfoldable pub call_then_rest : (ℕ → List Call) → ℕ → Decoded → List Call
call_then_rest rest at Nothing = []
call_then_rest rest at (Decodes k n) = k ∷ rest (at + n)

unfoldable pub decode_from : ℕ → List ℕ → ℕ → List Call
decode_from zero w at = []
decode_from (suc most) w at = call_then_rest (decode_from most w) at (decode w at)

-- All calls of the words. Each takes a word at least.
unfoldable pub decode_all : List ℕ → List Call
decode_all w = decode_from (length w) w 0
