use Rattle.worked_report_laws.proofs.MovedLemmas.{lawful}
use Rattle.worked_report_laws.proofs.reports.a_balance_goes_on.Goals as goal

pub returns : goal.returns
returns c = record { lawful = lawful }
