use Rattle.change_parts.proofs.ExistenceLemmas.{some_roll}
use Rattle.change_parts.proofs.roll_laws.there_is_a_roll.Goals as goal

pub returns : goal.returns
returns c =
    some_roll c.a_sound_script_has_a_report.ensures.exists c.no_link_is_lost.ensures c.stages_are_sound_and_lead_to_the_new_graph.ensures.sound
    c.parts_may_be_carried_out.ensures
