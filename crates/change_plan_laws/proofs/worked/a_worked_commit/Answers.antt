use Rattle.std.proofs.Common.{refl}
use Rattle.change_plan_laws.proofs.LineLemmas.{is_plan}
use Rattle.change_plan_laws.proofs.worked.a_worked_commit.Goals as goal

pub returns-clause-plan : goal.returns-clause-plan
returns-clause-plan c = is_plan

pub returns-clause-events : goal.returns-clause-events
returns-clause-events c = refl
