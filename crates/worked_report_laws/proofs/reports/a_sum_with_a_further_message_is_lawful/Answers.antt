use Rattle.worked_report_laws.proofs.SerialLemmas.{summed_is_serial}
use Rattle.worked_report_laws.proofs.SummedLemmas.{lawful}
use Rattle.worked_report_laws.proofs.reports.a_sum_with_a_further_message_is_lawful.Goals as goal

pub returns : goal.returns
returns c = record { lawful = lawful; serial = summed_is_serial }
