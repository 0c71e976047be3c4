use Rattle.worked_report_laws.proofs.WrongRunLemmas.{not_misled}
use Rattle.worked_report_laws.proofs.WrongStateLemmas.{not_forgotten, not_kept_back}
use Rattle.worked_report_laws.proofs.WrongTellingLemmas.{not_invented, not_turned}
use Rattle.worked_report_laws.proofs.wrong.wrong_states_are_refuted.Goals as goal

pub returns : goal.returns
returns c = record {
  forgotten = not_forgotten;
  kept_back = not_kept_back;
  misled = not_misled;
  invented = not_invented;
  turned = not_turned;
}
