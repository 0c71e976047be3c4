use Rattle.quiesce_core.proofs.RestLaws.{full_step}
use Rattle.quiesce_core.proofs.laws.full_is_found.Goals as goal

pub returns : goal.returns
returns c config sound m x = full_step config sound.no_cycle m x
