-- What a host's build gives, as the record of which `Builds` speaks.
use Rattle.state.specs.declared.Counters.{Counters}
use Rattle.runtime.specs.declared.BuildResult.{BuildResult}
use Rattle.host.specs.declared.HostBuildResult.{HostBuildResult}

-- The answer and the runtime made are returned, the counters are those left in the loan.
abbrev pub build_result_of : HostBuildResult → Counters → BuildResult
build_result_of r c = record { answer = r.answer; state = r.state; counters = c }
