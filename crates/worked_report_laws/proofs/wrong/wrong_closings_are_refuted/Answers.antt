use Rattle.worked_report_laws.proofs.WrongCloseLemmas.{not_closed_first, not_closed_for_it}
use Rattle.worked_report_laws.proofs.WrongClosingLemmas.{not_kept_closed, not_left_closed, not_made_too_soon, not_moved_unasked, not_seen_elsewhere, not_seen_falling, not_unclosed, not_unshown}
use Rattle.worked_report_laws.proofs.wrong.wrong_closings_are_refuted.Goals as goal

pub returns : goal.returns
returns c = record {
  left = not_left_closed;
  kept = not_kept_closed;
  unasked = not_moved_unasked;
  too_early = not_made_too_soon;
  falling = not_seen_falling;
  unclosed = not_unclosed;
  elsewhere = not_seen_elsewhere;
  unshown = not_unshown;
  for_nothing = not_closed_for_it;
  too_soon = not_closed_first;
}
