use Rattle.std.proofs.Common.{◌≡◌, ◌+◌, ◌<◌, ℕ, All, Contains, Some, length, slice_get, vec_len}
use Rattle.config_graph.specs.Graph.{ports}
use Rattle.config_graph.specs.declared.node.Port.{Port}
use Rattle.config_graph.proofs.cycles.push_owners.Given as goal

abbrev pub invariant-loop-port : goal.invariant-loop-port
invariant-loop-port l = record {
  nodes : All (λ i. i < length l.graph.nodes) l.fn.waiting.items → All (λ i. i < length l.graph.nodes) l.waiting.items;
  count : vec_len l.waiting ≡ vec_len l.fn.waiting + l.port-index;
  kept : (i : ℕ) → Contains l.fn.waiting.items i → Contains l.waiting.items i;
  owners : (k : ℕ) (port : ℕ) (owner : Port) → k < l.port-index → slice_get l.ports k ≡ Some port → slice_get (ports l.graph.nodes) port ≡ Some owner → Contains l.waiting.items owner.node;
}
