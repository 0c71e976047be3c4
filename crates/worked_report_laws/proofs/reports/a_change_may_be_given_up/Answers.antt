use Rattle.worked_report_laws.proofs.SerialLemmas.{given_up_is_serial}
use Rattle.worked_report_laws.proofs.GivenUpLaws.{lawful}
use Rattle.worked_report_laws.proofs.reports.a_change_may_be_given_up.Goals as goal

pub returns : goal.returns
returns c = record { lawful = lawful; serial = given_up_is_serial }
