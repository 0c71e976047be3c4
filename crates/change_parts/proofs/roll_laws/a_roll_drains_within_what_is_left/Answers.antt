use Rattle.change_parts.proofs.ExistenceLemmas.{sound_statements}
use Rattle.change_parts.proofs.RollingLemmas.{all_carried_out, each_drains}
use Rattle.change_parts.proofs.roll_laws.a_roll_drains_within_what_is_left.Goals as goal

pub returns : goal.returns
returns c = record {
  sound =
      sound_statements c.a_sound_script_has_a_report.ensures.exists c.no_link_is_lost.ensures c.stages_are_sound_and_lead_to_the_new_graph.ensures.sound c.parts_may_be_carried_out.ensures;
  each = each_drains c.a_sound_script_has_a_report.ensures.exists c.changes_drain_within_what_is_left.ensures.each;
  all = all_carried_out c.changes_in_a_row_drain_together.ensures.none_given_up;
}
