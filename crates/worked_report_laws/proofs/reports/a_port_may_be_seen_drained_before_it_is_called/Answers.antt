use Rattle.worked_report_laws.proofs.CalledLaterLaws.{lawful}
use Rattle.worked_report_laws.proofs.reports.a_port_may_be_seen_drained_before_it_is_called.Goals as goal

pub returns : goal.returns
returns c = record { lawful = lawful }
