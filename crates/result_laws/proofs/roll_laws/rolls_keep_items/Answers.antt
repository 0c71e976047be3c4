use Rattle.result_laws.specs.Describing.{LinksAre}
use Rattle.result_laws.specs.Flows.{AreApart, same_side}
use Rattle.result_laws.specs.Rolling.{ItemsBalance}
use Rattle.result_laws.proofs.Rolling.{in_roll, roll_has, stage_links}
use Rattle.result_laws.proofs.roll_laws.rolls_keep_items.Goals as goal

pub returns : goal.returns
returns c = record {
  items = in_roll c.a_sound_script_has_a_report.ensures.exists c.reports_of_rounds_are_lawful.ensures.lawful ItemsBalance AreApart c.items_are_kept_at_each_place.ensures.apart;
  stages = λ name args old k new_name new_args within new moves ps old_graph new_graph are sound old_links new_links.
      roll_has (LinksAre same_side) old new moves old_links (stage_links same_side old new moves old_graph new_graph old_links new_links) new_name new_args within name args k ps (c.no_link_is_lost.ensures old new moves ps old_graph new_graph are) sound;
}
