use Rattle.quiesce_laws.proofs.RootLaws.{closed_stays}
use Rattle.quiesce_laws.proofs.draining.closed_ports_stay_closed.Goals as goal

pub returns : goal.returns
returns c es more_ p run free shut = closed_stays es more_ p run free shut
