use Rattle.quiesce_core.specs.Runs.{state_after}
use Rattle.quiesce_laws.specs.Steps.{live_ports}
use Rattle.quiesce_laws.proofs.EndingLaws.{none_open}
use Rattle.quiesce_laws.proofs.GateLaws.{close_allowed, live_listed, live_unlisted}
use Rattle.quiesce_laws.proofs.ending.stops_leave_nothing_open.Goals as goal

pub returns-clause-closes : goal.returns-clause-closes
returns-clause-closes c = λ es more_ left e run is. close_allowed es (live_ports (state_after es).config) (live_listed (state_after es).config) more_ left e run is

pub returns-clause-nothing_open : goal.returns-clause-nothing_open
returns-clause-nothing_open c = λ es run drained p k. none_open es run (λ q made live. drained q (live_unlisted (state_after es).config q made live)) p k
