use Rattle.config_graph.specs.declared.node.Port.{Port}
use Rattle.change_lists.proofs.ListLoops.{mapped_number}
use Rattle.change_lists.proofs.lists.push_ports.Goals as goal

pub loop-require-preserved : goal.loop-require-preserved
loop-require-preserved c =
    mapped_number {B = Port} (λ r. record { node = c.args.node; require = r }) c.loop-require.require c.args.ports.now.items c.loop-require.ports.items c.push.new.self.items c.loop-require.invariant c.in_ok-push.ensures.items
