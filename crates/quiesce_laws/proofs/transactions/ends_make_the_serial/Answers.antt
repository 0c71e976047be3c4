use Rattle.quiesce_laws.proofs.SerialLaws.{tallied}
use Rattle.quiesce_laws.proofs.TotalLaws.{ends_make_all_serials}
use Rattle.quiesce_laws.proofs.transactions.ends_make_the_serial.Goals as goal

pub returns : goal.returns
returns c = record { of_a_port = λ es p run. (tallied es p run).count; of_all_ports = ends_make_all_serials }
