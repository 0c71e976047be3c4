use Rattle.config_graph.specs.Graph.{ports}
use Rattle.base.proofs.PlaceLaws.{took_more}
use Rattle.change_lists.proofs.layout.list_ports.Goals as goal

pub loop-number-preserved : goal.loop-number-preserved
loop-number-preserved c =
    took_more (ports c.args.graph.now.nodes) c.loop-number.number c.port.result c.loop-number.ports.items c.push.new.self.items c.port.ensures.port c.loop-number.invariant c.in_ok-push.ensures.items
