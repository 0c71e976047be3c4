use Rattle.std.proofs.Common.{◌≡◌, ◌↔◌, ℕ, Contains, length}
use Rattle.config_graph.specs.Graph.{ports}
use Rattle.passive_set.specs.Feeding.{FeedsMarked}
use Rattle.passive_set.proofs.passive.list_linked.Given as goal

abbrev pub invariant-loop-node : goal.invariant-loop-node
invariant-loop-node l = record {
  room : l.set.room ≡ length (ports l.graph.nodes);
  linked : (p : ℕ) → Contains l.set.ports p ↔ FeedsMarked l.graph l.marks l.node p;
}
