use Rattle.change_plan.proofs.TextLemmas.{texts_tell}
use Rattle.change_plan.proofs.laws.texts_tell_plans.Goals as goal

pub returns : goal.returns
returns c = texts_tell
