use Rattle.change_plan.proofs.PlanLaws.{one_plan}
use Rattle.change_plan.proofs.laws.there_is_one_plan.Goals as goal

pub returns : goal.returns
returns c = one_plan
