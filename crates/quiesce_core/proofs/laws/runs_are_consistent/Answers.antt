use Rattle.quiesce_core.proofs.RunLaws.{runs_are_consistent}
use Rattle.quiesce_core.proofs.laws.runs_are_consistent.Goals as goal

pub returns : goal.returns
returns c es h = runs_are_consistent es h
