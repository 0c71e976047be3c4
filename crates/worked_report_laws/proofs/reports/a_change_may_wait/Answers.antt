use Rattle.worked_report_laws.proofs.SerialLemmas.{waited_is_serial}
use Rattle.worked_report_laws.proofs.WaitedLaws.{lawful}
use Rattle.worked_report_laws.proofs.reports.a_change_may_wait.Goals as goal

pub returns : goal.returns
returns c = record { lawful = lawful; serial = waited_is_serial }
