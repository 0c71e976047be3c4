use Rattle.result_laws.specs.Describing.{LinksAre}
use Rattle.quiesce_core.specs.Runs.{state_after}
use Rattle.result_laws.specs.Holding.{AreFree, AreHeldOnce, AreLent, AreTables, NoneSpent, NothingIsOpenAt, forks_serve_places}
use Rattle.result_laws.proofs.Rolling.{in_roll, roll_has, stage_links}
use Rattle.result_laws.proofs.roll_laws.rolls_keep_forks.Goals as goal

pub returns : goal.returns
returns c = record {
  once = in_roll c.a_sound_script_has_a_report.ensures.exists c.reports_of_rounds_are_lawful.ensures.lawful AreHeldOnce AreTables c.forks_are_held_once.ensures.once;
  lent = in_roll c.a_sound_script_has_a_report.ensures.exists c.reports_of_rounds_are_lawful.ensures.lawful (λ es. NoneSpent (state_after es) → AreLent es) AreTables c.forks_are_held_once.ensures.lent;
  free = in_roll c.a_sound_script_has_a_report.ensures.exists c.reports_of_rounds_are_lawful.ensures.lawful (λ es. NoneSpent (state_after es) → NothingIsOpenAt es → AreFree es) AreTables c.forks_are_held_once.ensures.free;
  stages = λ name args old k new_name new_args within new moves ps old_graph new_graph are sound old_links new_links.
      roll_has (LinksAre forks_serve_places) old new moves old_links (stage_links forks_serve_places old new moves old_graph new_graph old_links new_links) new_name new_args within name args k ps (c.no_link_is_lost.ensures old new moves ps old_graph new_graph are) sound;
}
