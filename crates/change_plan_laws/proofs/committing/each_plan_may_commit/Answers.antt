use Rattle.change_plan_laws.proofs.MayCommitLemmas.{may_commit}
use Rattle.change_plan_laws.proofs.committing.each_plan_may_commit.Goals as goal

pub returns : goal.returns
returns c = λ old new moves plan es old_graph new_graph new_sound is_plan run undone graph can. may_commit old new moves plan es old_graph new_graph new_sound is_plan run undone graph can
