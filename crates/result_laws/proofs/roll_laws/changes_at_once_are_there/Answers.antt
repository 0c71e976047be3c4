use Rattle.result_laws.proofs.OnceThere.{once_drains, once_sound, once_there}
use Rattle.result_laws.proofs.roll_laws.changes_at_once_are_there.Goals as goal

pub returns : goal.returns
returns c = record {
  sound = once_sound;
  there = λ name args old k new_name new_args within new moves.
      once_there name args old k new_name new_args within new moves c.a_sound_script_has_a_report.ensures.exists;
  committed = λ name args old k new_name new_args within new moves.
      once_drains name args old k new_name new_args within new moves c.changes_in_a_row_drain_together.ensures.none_given_up;
}
