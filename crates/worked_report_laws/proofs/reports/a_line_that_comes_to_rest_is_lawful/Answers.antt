use Rattle.worked_report_laws.proofs.SerialLemmas.{ran_is_serial}
use Rattle.worked_report_laws.proofs.RanLemmas.{lawful}
use Rattle.worked_report_laws.proofs.reports.a_line_that_comes_to_rest_is_lawful.Goals as goal

pub returns : goal.returns
returns c = record { lawful = lawful; serial = ran_is_serial }
