use Rattle.worked_report_laws.proofs.LaterSerialLemmas.{run_out_is_serial}
use Rattle.worked_report_laws.proofs.RunOutLemmas.{lawful}
use Rattle.worked_report_laws.proofs.reports.a_run_may_end_with_more_or_fewer.Goals as goal

pub returns : goal.returns
returns c = record {
  lawful = lawful;
  serial = run_out_is_serial;
}
