use Rattle.worked_report_laws.proofs.WrongEndLemmas.{not_disordered, not_misheard, not_second_named, not_sent_off}
use Rattle.worked_report_laws.proofs.wrong.wrong_ends_are_refuted.Goals as goal

pub returns : goal.returns
returns c = record {
  sent_off = not_sent_off;
  misheard = not_misheard;
  disordered = not_disordered;
  second = not_second_named;
}
