use Rattle.std.proofs.Common.{◌≡◌, ◌↔◌, ◌⊎◌, ℕ, length, take}
use Rattle.passive_set.specs.Feeding.{Owns}
use Rattle.config_graph.specs.Marks.{IsMarked}
use Rattle.passive_set.proofs.passive.with_owners.Given as goal

abbrev pub invariant-loop-port : goal.invariant-loop-port
invariant-loop-port l = record {
  length_is : length l.marks.items ≡ length l.graph.nodes;
  marked : (i : ℕ) → IsMarked l.marks.items i ↔ (IsMarked l.initial.marks.items i ⊎ Owns l.graph (take l.port-index l.port-items) i);
}
