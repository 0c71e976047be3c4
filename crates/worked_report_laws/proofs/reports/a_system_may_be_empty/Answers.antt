use Rattle.worked_report_laws.proofs.EmptiedLemmas.{lawful}
use Rattle.worked_report_laws.proofs.reports.a_system_may_be_empty.Goals as goal

pub returns : goal.returns
returns c = record { lawful = lawful }
