use Rattle.quiesce_core.specs.declared.event.Event.TheVariants as event
use Rattle.change_lists.specs.Lists.{is_reopened_at}
use Rattle.change_lists.proofs.ListLoops.{passed_on}
use Rattle.change_lists.proofs.layout.Layout.push_reopens.Goals as goal

pub loop-port-preserved : goal.loop-port-preserved
loop-port-preserved c =
    passed_on event.Reopen (is_reopened_at c.args.self.now.places.items c.args.self.now.ports.items c.args.plan.now) c.loop-port.port c.args.events.now.items c.loop-port.events.items c.push_if_reopened.new.events.items c.loop-port.invariant c.in_ok-push_if_reopened.ensures
