use Rattle.quiesce_laws.proofs.MeanwhileLaws.{allowed_meanwhile}
use Rattle.quiesce_laws.proofs.stepping.changes_can_not_fail.Goals as goal

pub returns : goal.returns
returns c = λ drained es more_ left e run h closed_ may. allowed_meanwhile drained es more_ left e run h closed_ may
