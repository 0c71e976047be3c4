use Rattle.change_plan.proofs.ApplyingLemmas.{linked_may_be, unlinked_frozen}
use Rattle.change_plan.proofs.laws.only_what_is_frozen_or_created_is_linked_anew.Goals as goal

pub returns-clause-unlinked : goal.returns-clause-unlinked
returns-clause-unlinked c = λ old new p old_graph new_graph plan. unlinked_frozen old new old_graph new_graph p plan

pub returns-clause-linked : goal.returns-clause-linked
returns-clause-linked c = λ old new p old_graph new_graph plan. linked_may_be old new old_graph new_graph p plan
