use Rattle.std.proofs.Common.{refl}
use Rattle.quiesce_core.specs.Reach.{has_no_cycle, reaches}
use Rattle.quiesce_core.proofs.knowledge_laws.worked_runs.Goals as goal

pub returns : goal.returns
unfolding reaches has_no_cycle
returns c = record { again = refl; on = refl; asking = refl; adding = refl; ended = refl; answers = refl; calling = refl }
