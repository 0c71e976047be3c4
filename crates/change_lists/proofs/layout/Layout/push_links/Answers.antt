use Rattle.change_lists.specs.Lists.{link_at}
use Rattle.change_lists.proofs.ListLoops.{picked_at}
use Rattle.change_lists.proofs.layout.Layout.push_links.Goals as goal

pub loop-port-preserved : goal.loop-port-preserved
loop-port-preserved c =
    picked_at (link_at c.args.self.now.places.items c.args.self.now.ports.items c.args.plan.now.link) c.loop-port.port c.args.events.now.items c.loop-port.events.items c.push_link_at.new.events.items c.loop-port.invariant c.in_ok-push_link_at.ensures
