use Rattle.worked_report_laws.proofs.LaterSerialLemmas.{twice_is_serial}
use Rattle.worked_report_laws.proofs.reports.a_second_run_counts_anew.Goals as goal

pub returns : goal.returns
returns c = record { serial = twice_is_serial }
