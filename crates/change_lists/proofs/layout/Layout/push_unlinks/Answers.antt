use Rattle.quiesce_core.specs.declared.event.Event.TheVariants as event
use Rattle.change_lists.specs.Lists.{is_unlinked_at}
use Rattle.change_lists.proofs.ListLoops.{passed_on}
use Rattle.change_lists.proofs.layout.Layout.push_unlinks.Goals as goal

pub loop-port-preserved : goal.loop-port-preserved
loop-port-preserved c =
    passed_on event.Unlink (is_unlinked_at c.args.self.now.places.items c.args.self.now.ports.items c.args.plan.now.unlink) c.loop-port.port c.args.events.now.items c.loop-port.events.items c.push_if_unlinked.new.events.items c.loop-port.invariant c.in_ok-push_if_unlinked.ensures
