use Rattle.quiesce_laws.proofs.Onward.{none_open}
use Rattle.quiesce_laws.proofs.ends.none_is_open_where_none_can_advance.Goals as goal

pub returns : goal.returns
returns c es h none_ p = none_open es h none_ p
