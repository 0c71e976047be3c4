use Rattle.worked_report_laws.proofs.WrongSerialLemmas.{not_ahead, not_between, not_late}
use Rattle.worked_report_laws.proofs.wrong.wrong_serials_are_refuted.Goals as goal

pub returns : goal.returns
returns c = record {
  late = not_late;
  ahead = not_ahead;
  between = not_between;
}
