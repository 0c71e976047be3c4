use Rattle.worked_report_laws.proofs.EndedEarlyLemmas.{lawful}
use Rattle.worked_report_laws.proofs.reports.a_root_may_end_before_it_is_said_to_be_open.Goals as goal

pub returns : goal.returns
returns c = record { lawful = lawful }
