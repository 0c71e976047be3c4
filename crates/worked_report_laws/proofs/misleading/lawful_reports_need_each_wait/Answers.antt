use Rattle.worked_report_laws.proofs.MisleadingReportLemmas as worked
use Rattle.worked_report_laws.proofs.misleading.lawful_reports_need_each_wait.Goals as goal

pub returns : goal.returns
returns c = record {
  close_waits = worked.close_misleads;
  begin_waits = worked.begin_misleads;
  call_waits = worked.call_misleads;
  end_waits = worked.end_misleads;
}
