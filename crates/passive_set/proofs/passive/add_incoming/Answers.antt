use Rattle.std.proofs.Common.{◌<◌, ◌∙◌, All, arith, length}
use Rattle.config_graph.specs.Graph.{ports}
use Rattle.config_graph.proofs.IncomingLaws.{incoming-within}
use Rattle.passive_set.proofs.PortLemmas.{Adds-listed}
use Rattle.passive_set.proofs.passive.add_incoming.Goals as goal

pub add-requires : goal.add-requires
add-requires c =
    let g = c.args.graph.now in
    let below : All (λ p. p < length (ports g.nodes)) c.incoming-port-items.result.now = rw c.incoming-port-items.ensures.ports (incoming-within g c.requires.graph c.args.node c.args.provide) in
    omega (arith, below c.loop-port.port-index 0 c.loop-port-test.true, c.loop-port.invariant.room, c.requires.room)

pub loop-port-preserved : goal.loop-port-preserved
loop-port-preserved c = record {
  room = c.in_ok-add.ensures.room ∙ c.loop-port.invariant.room;
  added = Adds-listed c.args.set.now.ports c.loop-port.set.ports c.add.new.self.ports c.incoming-port-items.result.now c.loop-port.port-index c.loop-port-test.true c.loop-port.invariant.added c.in_ok-add.ensures.added;
}
