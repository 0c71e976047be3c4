use Rattle.quiesce_core.proofs.RunLaws.{runs_are_well_formed}
use Rattle.quiesce_core.proofs.laws.runs_are_well_formed.Goals as goal

pub returns : goal.returns
returns c es h = runs_are_well_formed es h
