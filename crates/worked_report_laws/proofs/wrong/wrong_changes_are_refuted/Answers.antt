use Rattle.worked_report_laws.proofs.WrongChangeLemmas.{not_closed_for_nothing, not_looked_again, not_moved_nowhere, not_skipped_for_nothing}
use Rattle.worked_report_laws.proofs.wrong.wrong_changes_are_refuted.Goals as goal

pub returns : goal.returns
returns c = record {
  skipped = not_skipped_for_nothing;
  closed = not_closed_for_nothing;
  looked = not_looked_again;
  moved = not_moved_nowhere;
}
