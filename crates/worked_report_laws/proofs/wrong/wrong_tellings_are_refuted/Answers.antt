use Rattle.worked_report_laws.proofs.WrongTellingLemmas.{not_change_to_four, not_finished_within_six, not_moved_twice, not_of_three, not_renamed, not_run_of_two, not_skipped_to_nine, not_tried_again}
use Rattle.worked_report_laws.proofs.wrong.wrong_tellings_are_refuted.Goals as goal

pub returns : goal.returns
returns c = record {
  renamed = not_renamed;
  argument = not_of_three;
  run = not_run_of_two;
  finish = not_finished_within_six;
  change = not_change_to_four;
  again = not_tried_again;
  skipped = not_skipped_to_nine;
  moved_twice = not_moved_twice;
}
