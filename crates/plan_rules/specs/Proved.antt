-- All that is proved of these definitions.
use Rattle.std.specs.Prelude.{◌≡◌, List, ℕ, ◌<◌}
use Rattle.rules.specs.State.{Counters, zeros}
use Rattle.rules.specs.Answers.{Accepted}
use Rattle.rules.specs.Build.{build}
use Rattle.plan_file.specs.Plan.{Plan}
use Rattle.plan_rules.specs.Setup.{setup_of, least_lookahead_of}
use Rattle.plan_rules.specs.Ends.{Ends}
use Rattle.plan_rules.specs.Laws.{Sets, Builds, Limits, Runs, LongPayloads}
use Rattle.plan_rules.specs.Size.{Texts, Fits, Program}
use Rattle.plan_rules.specs.Numbers.{BuildNumbers, EndNumbers}
use Rattle.plan_rules.specs.Examples.{Examples}

pub record Proved : Type 0 where
  pub examples : Examples
  pub sets : (p : Plan) → Sets p
  pub builds : (p : Plan) (c : Counters) → Builds p c
  pub build_numbers_holds : (p : Plan) (c : Counters) → BuildNumbers p c
  pub limits : (p : Plan) → 0 < least_lookahead_of p → Limits p
  pub ends : (p : Plan) → (build (setup_of p) zeros).answer ≡ Accepted → Ends p
  pub runs : (p : Plan) → (build (setup_of p) zeros).answer ≡ Accepted → Runs p
  pub long_payloads : LongPayloads
  pub texts : Texts
  pub fits : (p : Plan) → (build (setup_of p) zeros).answer ≡ Accepted → Fits p
  pub end_numbers_holds : (p : Plan) → (build (setup_of p) zeros).answer ≡ Accepted → EndNumbers p
  pub program : (file lent : List ℕ) → Program file lent
