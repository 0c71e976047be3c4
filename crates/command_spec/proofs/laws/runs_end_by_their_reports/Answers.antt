use Rattle.command_spec.proofs.Reported.{asked_to_run, ends_by_report}
use Rattle.command_spec.proofs.ReportLemmas.{unwatched}
use Rattle.command_spec.proofs.laws.runs_end_by_their_reports.Goals as goal

pub returns : goal.returns
returns c = record {
  only = asked_to_run;
  unwatched = unwatched;
  pending = λ schedule files name own r. (ends_by_report schedule files name own r).0;
  unfinished = λ schedule files name own r. (ends_by_report schedule files name own r).1;
}
