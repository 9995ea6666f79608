-- What is proved of plan files.
use Rattle.std.specs.Prelude.{ℕ, ◌≤◌, ◌≡◌, List, length}
use Rattle.bits.specs.Bytes.{Bytes}
use Rattle.plan_file.specs.Plan.{Plan}
use Rattle.plan_file.specs.Grammar.{plan}
use Rattle.plan_file.specs.File.{Answer.contents, decode, encode}
use Rattle.plan_file.specs.Widths.{Widths}
use Rattle.plan_file.specs.Events.{event_count}
use Rattle.plan_file.specs.Examples.{Examples}

pub record PlanFiles : Type 0 where
  -- "A file holds at most 901 events" (document 02, A.13).
  pub few_events : (s : List ℕ) (p : Plan) → decode s ≡ contents p → event_count p ≤ 901
  -- What its fields can hold.
  pub widths : (s : List ℕ) (p : Plan) → decode s ≡ contents p → Widths p
  -- What is written reads back as the same contents; a file that 37 and 38 let pass has exactly the bytes that are written of its contents.
  pub decode_encode : (p : Plan) → plan.In p → length (encode p) ≤ 16384 → decode (encode p) ≡ contents p
  pub encode_decode : (s : List ℕ) (p : Plan) → decode s ≡ contents p → Bytes s → encode p ≡ s
  -- C1's file, and damaged ones.
  pub examples : Examples
