use Rattle.std.proofs.Common.{◌+◌, ◌∙◌, Contains}
use Rattle.config_graph.specs.Graph.{incoming_ports}
use Rattle.passive_set.specs.Feeding.{FeedsNode}
use Rattle.passive_set.proofs.FeedingLemmas.{SomeBelow_more}
use Rattle.passive_set.proofs.PortLemmas.{Adds-more}
use Rattle.passive_set.proofs.passive.add_linked.Goals as goal

pub loop-provide-preserved : goal.loop-provide-preserved
loop-provide-preserved c =
    let g = c.args.graph.now in
    let n = c.args.node in
    let x = c.loop-provide.provide in
    record {
      room = c.in_ok-add_incoming.ensures.room ∙ c.loop-provide.invariant.room;
      added = Adds-more _ _ _ (FeedsNode g n x) (Contains (incoming_ports g n x)) (FeedsNode g n (x + 1)) c.loop-provide.invariant.added c.in_ok-add_incoming.ensures.added (λ p. SomeBelow_more (λ y. Contains (incoming_ports g n y) p) x);
    }
