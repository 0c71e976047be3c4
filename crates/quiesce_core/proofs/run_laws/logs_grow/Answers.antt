use Rattle.quiesce_core.proofs.RunLaws.{done_by_more}
use Rattle.quiesce_core.proofs.run_laws.logs_grow.Goals as goal

pub returns : goal.returns
returns c n es e = done_by_more n es e
