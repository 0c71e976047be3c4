use Rattle.change_plan.proofs.ApplyingLemmas.{keeps_links}
use Rattle.change_plan.proofs.laws.what_is_not_frozen_keeps_its_links.Goals as goal

pub returns : goal.returns
returns c = λ old new p old_graph new_graph plan. keeps_links old new old_graph new_graph p plan
