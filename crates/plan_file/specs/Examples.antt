-- C1's file: L = 3, edges 0→1 and 1→0, of lookahead 3 each, horizon 9, budget 1,000,000, no events. By computation.
use Rattle.std.specs.Prelude.{ℕ, ◌+◌, ◌^◌, ◌≡◌, List, [], ◌∷◌, ◌++◌, replicate}
use Rattle.bits.specs.Bits.{bit, odd, bits_of, value_of}
use Rattle.bits.specs.Bytes.{stream, pack}
use Rattle.rules.specs.Base.{if◌then◌otherwise◌}
use Rattle.plan_file.specs.Format.{next, get_field, field, pair, puts, gets, counted, seen}
use Rattle.plan_file.specs.Plan.{Plan}
use Rattle.plan_file.specs.Grammar.{edge, message, reply, plan}
use Rattle.plan_file.specs.File.{Answer.refused, Answer.contents, ended, decode, padding, padded, encode}

-- One name that opens all of them.
unfoldable pub by_computation : Type 0
unfolding bit odd bits_of value_of stream pack next get_field field pair puts gets counted seen if◌then◌otherwise◌ ended decode padding padded encode edge message reply plan
by_computation = ℕ

unfoldable pub c1 : Plan
c1 = record {
  n = 2;
  lookahead = 3;
  horizon = 9;
  budget = 1000000;
  edges = record { source = 0; destination = 1; lookahead = 3 } ∷ record { source = 1; destination = 0; lookahead = 3 } ∷ [];
  initial = [];
  replies = [];
}

abbrev header : List ℕ
header = (4 ∷ replicate 15 0) ++ ((6 ∷ replicate 15 0) ++ ((18 ∷ replicate 5 0) ++ (30 ∷ 132 ∷ 128 ∷ [])))

-- The file up to its last byte, and with one.
abbrev pub c1_front : List ℕ
c1_front = header ++ ((1 ∷ 0 ∷ 8 ∷ replicate 15 0) ++ ((24 ∷ 32 ∷ replicate 15 0) ++ (1 ∷ 128 ∷ 0 ∷ [])))

abbrev pub c1_file : ℕ → List ℕ
c1_file x = c1_front ++ (x ∷ [])

-- C1 with a lookahead of 2^64 + 5 along 1→0, an initial event 0→1 at 3 and a reply of process 1, an emission 1→0 at 6, both with a payload.
unfoldable pub events : Plan
events = record {
  n = 2;
  lookahead = 3;
  horizon = 9;
  budget = 1000000;
  edges = record { source = 0; destination = 1; lookahead = 3 } ∷ record { source = 1; destination = 0; lookahead = 2 ^ 64 + 5 } ∷ [];
  initial = record { source = 0; destination = 1; tick = 3; payload = 255 ∷ 1 ∷ [] } ∷ [];
  replies = record { process = 1; messages = record { source = 1; destination = 0; tick = 6; payload = 7 ∷ [] } ∷ [] } ∷ [];
}

abbrev pub events_file : List ℕ
events_file =
    header ++ ((1 ∷ 0 ∷ 8 ∷ replicate 15 0) ++ ((24 ∷ 32 ∷ replicate 8 0) ++ ((128 ∷ replicate 6 0) ++ ((2 ∷ 128 ∷ 32 ∷ 2 ∷ replicate 15 0) ++ ((6 ∷ 47 ∷ 240 ∷ 16 ∷ 4 ∷ 16 ∷ 4 ∷ 16 ∷ replicate 15 0) ++ (1 ∷ 130 ∷ 14 ∷ []))))))

pub record Examples : Type 0 where
  pub c1_read : decode (c1_file 0) ≡ contents c1
  pub c1_written : encode c1 ≡ c1_file 0
  pub events_read : decode events_file ≡ contents events
  pub set_padding : decode (c1_file 1) ≡ refused 37
  pub «too_short» : decode c1_front ≡ refused 37
  pub «left_over» : decode (c1_file 0 ++ (0 ∷ [])) ≡ refused 37
  pub empty : decode [] ≡ refused 37
  pub «too_long» : decode (replicate 16385 0) ≡ refused 38
