use Rattle.std.proofs.Common.{◌≡◌, ◌∙◌, None, refl, slice_get, sym}
use Rattle.config_graph.specs.Graph.{provides_at}
use Rattle.passive_set.specs.Feeding.{Feeds, FeedsPort}
use Rattle.passive_set.proofs.FeedingLemmas.{Feeds-port, SoFar-start, SoFar_more, SoFar-done}
use Rattle.passive_set.proofs.PortLemmas.{Adds-same}
use Rattle.passive_set.proofs.passive.add_dependent.Goals as goal

pub loop-port-init : goal.loop-port-init
loop-port-init c = record { room = refl; so_far = SoFar-start c.args.graph.now c.args.set.now.ports }

pub loop-port-preserved : goal.loop-port-preserved
loop-port-preserved c =
    let g = c.args.graph.now in
    let port = c.port.result in
    let p = c.in-Some.port in
    let now = c.loop-port.set.ports in
    let new = c.add_feeding.new.set.ports in
    let feeding = Adds-same now new (FeedsPort g port.node port.require (provides_at g.nodes port.node)) (Feeds g p) (Feeds-port g p port c.port.ensures.port) c.in_ok-add_feeding.ensures.added in
    record {
      room = c.in_ok-add_feeding.ensures.room ∙ c.loop-port.invariant.room;
      so_far = SoFar_more g c.args.set.now.ports now new c.loop-port.next p c.loop-port.invariant.so_far (sym c.in-Some.ensures.port) feeding;
    }

pub returns-clause-closure : goal.returns-clause-closure
returns-clause-closure c =
    let none : slice_get c.loop-port.set.ports c.loop-port.next ≡ None = sym c.in_default.ensures.port in
    SoFar-done c.args.graph.now c.args.set.now.ports c.loop-port.set.ports c.loop-port.next c.loop-port.invariant.so_far none
