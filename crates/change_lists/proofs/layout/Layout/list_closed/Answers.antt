use Rattle.change_lists.specs.Layouts.{is_among}
use Rattle.change_lists.specs.Lists.{owner_place}
use Rattle.change_lists.proofs.ListingLaws.{passed_more}
use Rattle.change_lists.proofs.layout.Layout.list_closed.Goals as goal

pub loop-port-preserved : goal.loop-port-preserved
loop-port-preserved c =
    passed_more (λ p. is_among c.args.plan.now.freeze (owner_place c.args.self.now.places.items c.args.self.now.ports.items p)) c.loop-port.port c.loop-port.ports.items c.push_if_frozen.new.ports.items c.loop-port.invariant c.in_ok-push_if_frozen.ensures
