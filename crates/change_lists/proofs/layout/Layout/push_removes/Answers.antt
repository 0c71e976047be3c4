use Rattle.quiesce_core.specs.declared.event.Event.TheVariants as event
use Rattle.change_lists.specs.Layouts.{is_among, place_at}
use Rattle.change_lists.proofs.ListLoops.{passed_on}
use Rattle.change_lists.proofs.layout.Layout.push_removes.Goals as goal

pub loop-node-preserved : goal.loop-node-preserved
loop-node-preserved c =
    passed_on event.Remove (λ n. is_among c.args.plan.now.remove (place_at c.args.self.now.places.items n)) c.loop-node.node c.args.events.now.items c.loop-node.events.items c.push_if_removed.new.events.items c.loop-node.invariant c.in_ok-push_if_removed.ensures
