use Rattle.worked_report_laws.proofs.WrongLineLemmas.{not_called_finished, not_early_in_rounds, not_given_up_early, not_outrun, not_shown_wrongly, not_unseen, not_without_reopening}
use Rattle.worked_report_laws.proofs.wrong.wrong_lines_are_refuted.Goals as goal

pub returns : goal.returns
returns c = record {
  reopened = not_without_reopening;
  drained = not_unseen;
  shown = not_shown_wrongly;
  finished = not_given_up_early;
  finished_in_rounds = not_early_in_rounds;
  outrun = not_outrun;
  unfinished = not_called_finished;
}
