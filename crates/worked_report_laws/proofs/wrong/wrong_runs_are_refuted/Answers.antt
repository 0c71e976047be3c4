use Rattle.worked_report_laws.proofs.FinishedTwiceLemmas.{not_at_once_in_rounds, not_finished_at_once, not_finished_later, not_later_in_rounds, not_partly_in_rounds, not_rested_partly}
use Rattle.worked_report_laws.proofs.WrongRestLemmas.{not_rested_before}
use Rattle.worked_report_laws.proofs.WrongRunLemmas.{not_counted_twice, not_ended_idly, not_idle_in_rounds}
use Rattle.worked_report_laws.proofs.wrong.wrong_runs_are_refuted.Goals as goal

pub returns : goal.returns
returns c = record {
  idle = not_ended_idly;
  idle_in_rounds = not_idle_in_rounds;
  rested_before = not_rested_before;
  partly = not_rested_partly;
  partly_in_rounds = not_partly_in_rounds;
  later = not_finished_later;
  later_in_rounds = not_later_in_rounds;
  sooner = not_finished_at_once;
  sooner_in_rounds = not_at_once_in_rounds;
  twice = not_counted_twice;
}
