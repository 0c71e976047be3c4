use Rattle.quiesce_core.proofs.RunLaws.{steps_keep_consistency}
use Rattle.quiesce_core.proofs.laws.steps_keep_consistency.Goals as goal

pub returns : goal.returns
returns c s t e w k step = steps_keep_consistency s t e w k step
