use Rattle.std.proofs.Common.{None, refl}
use Rattle.quiesce_core.specs.declared.event.Event.TheVariants.{Make}
use Rattle.rows_nodes.proofs.turn_rows.make_node.Goals as goal

pub returns-clause-fits : goal.returns-clause-fits
returns-clause-fits g c =
    c.seats_of_live_nodes_fit.ensures.new c.args.core.now.state c.happens.new.core.state c.args.slot c.args.node None c.happens.ensures.formed c.happens.ensures.step

pub returns-clause-others : goal.returns-clause-others
returns-clause-others g c = λ n w fits live.
    c.seats_of_live_nodes_fit.ensures.others c.args.core.now.state c.happens.new.core.state (Make c.args.slot c.args.node None) n w c.happens.ensures.formed c.happens.ensures.consistent c.happens.ensures.step refl live fits
