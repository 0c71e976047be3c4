use Rattle.quiesce_laws.proofs.DrainingLaws.{drained_stays}
use Rattle.quiesce_laws.proofs.draining.drained_ports_stay_drained.Goals as goal

pub returns : goal.returns
returns c es more_ p run free h = drained_stays es more_ p run free h
