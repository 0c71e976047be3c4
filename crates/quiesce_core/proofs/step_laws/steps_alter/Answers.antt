use Rattle.quiesce_core.proofs.AlterLaws.{steps_alter}
use Rattle.quiesce_core.proofs.step_laws.steps_alter.Goals as goal

pub returns : goal.returns
returns c s t e w step = steps_alter s t e w step
