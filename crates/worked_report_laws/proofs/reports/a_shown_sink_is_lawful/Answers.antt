use Rattle.worked_report_laws.proofs.SerialLemmas.{shown_is_serial}
use Rattle.worked_report_laws.proofs.ShownLemmas.{lawful}
use Rattle.worked_report_laws.proofs.reports.a_shown_sink_is_lawful.Goals as goal

pub returns : goal.returns
returns c = record { lawful = lawful; serial = shown_is_serial }
