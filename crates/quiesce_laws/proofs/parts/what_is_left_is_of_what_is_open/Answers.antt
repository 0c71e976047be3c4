use Rattle.quiesce_laws.proofs.Portions.{open_is_all}
use Rattle.quiesce_laws.proofs.parts.what_is_left_is_of_what_is_open.Goals as goal

pub returns : goal.returns
returns c s = open_is_all s
