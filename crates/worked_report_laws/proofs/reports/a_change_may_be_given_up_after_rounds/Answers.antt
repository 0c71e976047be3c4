use Rattle.worked_report_laws.proofs.GivenUpLaterLemmas.{lawful}
use Rattle.worked_report_laws.proofs.LaterSerialLemmas.{later_is_serial}
use Rattle.worked_report_laws.proofs.reports.a_change_may_be_given_up_after_rounds.Goals as goal

pub returns : goal.returns
returns c = record {
  lawful = lawful;
  serial = later_is_serial;
}
