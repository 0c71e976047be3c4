use Rattle.change_plan.proofs.RefusalLemmas.{no_refusal, one_refusal}
use Rattle.change_plan.proofs.ExistenceLemmas.{plan_or_refusal}
use Rattle.change_plan.proofs.laws.a_plan_or_a_refusal.Goals as goal

pub returns-clause-always_one : goal.returns-clause-always_one
returns-clause-always_one c = λ old new moves made old_graph new_graph. plan_or_refusal old new old_graph new_graph moves made

pub returns-clause-plan_alone : goal.returns-clause-plan_alone
returns-clause-plan_alone c = λ old new moves made old_graph new_graph e can. no_refusal old new old_graph new_graph moves made e can

pub returns-clause-one_refusal : goal.returns-clause-one_refusal
returns-clause-one_refusal c = λ old new moves made old_graph new_graph d e. one_refusal old new old_graph new_graph moves made d e
