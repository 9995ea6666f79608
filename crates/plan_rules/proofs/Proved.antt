use Rattle.rules.specs.State.{zeros}
use Rattle.plan_rules.specs.Proved.{Proved}
use Rattle.plan_rules.proofs.Examples.{examples}
use Rattle.plan_rules.proofs.Ends.{ends}
use Rattle.plan_rules.proofs.Setups.{sets}
use Rattle.plan_rules.proofs.Builds.{builds, build_numbers_holds}
use Rattle.plan_rules.proofs.Payloads.{long_payloads}
use Rattle.plan_rules.proofs.Limits.{limits}
use Rattle.plan_rules.proofs.Runs.{runs}
use Rattle.plan_rules.proofs.Texts.{texts}
use Rattle.plan_rules.proofs.Size.{size_fits}
use Rattle.plan_rules.proofs.Numbers.{end_numbers_holds}
use Rattle.plan_rules.proofs.Program.{program}

pub proved : Proved
proved = record { examples = examples; sets = sets; builds = builds; build_numbers_holds = build_numbers_holds; limits = limits; ends = λ p b. ends p zeros b; runs = λ p b. runs p zeros b; long_payloads = long_payloads; texts = texts; fits = λ p b. size_fits p zeros b; end_numbers_holds = λ p b. end_numbers_holds p zeros b; program = program }
