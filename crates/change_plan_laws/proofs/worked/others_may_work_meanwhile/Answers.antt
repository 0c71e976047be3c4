use Rattle.std.proofs.Common.{refl}
use Rattle.change_plan_laws.proofs.FeedingLemmas.{busy_may_commit}
use Rattle.change_plan_laws.proofs.worked.others_may_work_meanwhile.Goals as goal

pub returns-clause-may : goal.returns-clause-may
returns-clause-may c = busy_may_commit

pub returns-clause-is_open : goal.returns-clause-is_open
returns-clause-is_open c = refl

pub returns-clause-is_busy : goal.returns-clause-is_busy
returns-clause-is_busy c = refl
