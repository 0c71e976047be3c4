use Rattle.quiesce_core.specs.Runs.{state_after}
use Rattle.quiesce_core.proofs.CycleLaws.{cycles_are_found}
use Rattle.quiesce_core.proofs.RunLaws.{runs_are_well_formed}
use Rattle.quiesce_laws.proofs.cycles.runs_close_no_walk.Goals as goal

pub returns : goal.returns
returns c es run = (cycles_are_found (state_after es).config).0 (runs_are_well_formed es run).sound.no_cycle
