use Rattle.std.proofs.Common.{◌≡◌, ◌↔◌, ℕ, length, take, Contains}
use Rattle.config_graph.specs.Marks.{IsMarked}
use Rattle.passive_set.proofs.marks.mark_nodes.Given as goal

abbrev pub invariant-loop-node : goal.invariant-loop-node
invariant-loop-node l = record {
  count : length l.marks.items ≡ l.count;
  marked : (i : ℕ) → IsMarked l.marks.items i ↔ Contains (take l.node-index l.nodes) i;
}
