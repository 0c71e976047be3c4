use Rattle.change_lists.specs.Layouts.{is_live_at}
use Rattle.change_lists.proofs.ListingLaws.{passed_more}
use Rattle.change_lists.proofs.layout.Layout.live_ports.Goals as goal

pub loop-port-preserved : goal.loop-port-preserved
loop-port-preserved c =
    passed_more (is_live_at c.args.self.now.places.items c.args.self.now.ports.items) c.loop-port.port c.loop-port.live.items c.push_if_live.new.live.items c.loop-port.invariant c.in_ok-push_if_live.ensures
