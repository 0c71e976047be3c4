use Rattle.change_plan_laws.proofs.ChainLemmas.{all_allowed, direct_alone, direct_denied, direct_runs, is_plan, links_once}
use Rattle.change_plan_laws.proofs.worked.freezing_less_is_denied.Goals as goal

pub returns-clause-plan : goal.returns-clause-plan
returns-clause-plan c = is_plan

pub returns-clause-steps : goal.returns-clause-steps
returns-clause-steps c = links_once

pub returns-clause-runs : goal.returns-clause-runs
returns-clause-runs c = direct_runs

pub returns-clause-direct : goal.returns-clause-direct
returns-clause-direct c = λ p low. direct_alone p low

pub returns-clause-denied : goal.returns-clause-denied
returns-clause-denied c = direct_denied

pub returns-clause-allowed : goal.returns-clause-allowed
returns-clause-allowed c = all_allowed
