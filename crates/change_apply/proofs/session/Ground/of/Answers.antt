use Rattle.std.proofs.Common.{[]}
use Rattle.quiesce_core.specs.Start.{started}
use Rattle.change_apply.proofs.session.Ground.of.Goals as goal

pub list_closed-requires-clause-planned : goal.list_closed-requires-clause-planned
list_closed-requires-clause-planned c =
    let r = c.args.request.now in
    let g = r.from.graph in (
      (started g).config,
      [],
      c.requires.old_graph,
      c.layouts_tell_commits.ensures.started g c.in_ok-layout.layout c.requires.old_graph c.in_ok-layout.ensures.places c.in_ok-layout.ensures.ports,
      record { new_graph = c.requires.new_graph; new_sound = c.requires.new_sound; is_plan = c.requires.is_plan; can_plan = c.requires.can_plan },
    )
