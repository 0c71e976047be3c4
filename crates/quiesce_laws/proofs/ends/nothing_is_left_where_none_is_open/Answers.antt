use Rattle.quiesce_laws.proofs.Emptiness.{nothing_left, none_belongs}
use Rattle.quiesce_laws.proofs.ends.nothing_is_left_where_none_is_open.Goals as goal

pub returns-clause-all : goal.returns-clause-all
returns-clause-all c s w k = nothing_left s w k

pub returns-clause-part : goal.returns-clause-part
returns-clause-part c set s w k none_ p busy = none_belongs set s w k none_ p busy
