use Rattle.elaborator.proofs.LinkLawLemmas.{joined, told_by_requirement}
use Rattle.elaborator.proofs.laws.links_join_what_bindings_do.Goals as goal

pub returns-clause-joined : goal.returns-clause-joined
returns-clause-joined c = joined

pub returns-clause-one_a_requirement : goal.returns-clause-one_a_requirement
returns-clause-one_a_requirement c = told_by_requirement
