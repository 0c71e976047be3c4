use Rattle.worked_report_laws.proofs.KeptLemmas.{lawful}
use Rattle.worked_report_laws.proofs.reports.a_change_that_changes_nothing_is_lawful.Goals as goal

pub returns : goal.returns
returns c = record { lawful = lawful }
