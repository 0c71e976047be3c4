use Rattle.worked_report_laws.proofs.WrongLogLemmas.{not_altered, not_hurried, not_swapped}
use Rattle.worked_report_laws.proofs.WrongRunLemmas.{not_logged_twice, not_unlogged}
use Rattle.worked_report_laws.proofs.wrong.wrong_logs_are_refuted.Goals as goal

pub returns : goal.returns
returns c = record {
  swapped = not_swapped;
  unlogged = not_unlogged;
  logged_twice = not_logged_twice;
  altered = not_altered;
  hurried = not_hurried;
}
