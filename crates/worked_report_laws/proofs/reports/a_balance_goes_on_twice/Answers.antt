use Rattle.worked_report_laws.proofs.MovedTwiceLemmas.{lawful}
use Rattle.worked_report_laws.proofs.reports.a_balance_goes_on_twice.Goals as goal

pub returns : goal.returns
returns c = record { lawful = lawful }
