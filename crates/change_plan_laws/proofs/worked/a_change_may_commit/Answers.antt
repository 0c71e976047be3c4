use Rattle.std.proofs.Common.{refl}
use Rattle.change_plan_laws.proofs.BankLemmas.{may_commit, no_part}
use Rattle.change_plan_laws.proofs.worked.a_change_may_commit.Goals as goal

pub returns-clause-may : goal.returns-clause-may
returns-clause-may c = may_commit

pub returns-clause-no_part : goal.returns-clause-no_part
returns-clause-no_part c = no_part

pub returns-clause-events : goal.returns-clause-events
returns-clause-events c = refl
