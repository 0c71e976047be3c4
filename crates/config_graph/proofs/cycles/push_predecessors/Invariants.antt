use Rattle.std.proofs.Common.{◌≡◌, ◌+◌, ◌*◌, ◌<◌, ◌≤◌, ℕ, All, Contains, Some, length, vec_len}
use Rattle.config_graph.specs.Graph.{requires_at, target_of}
use Rattle.config_graph.proofs.cycles.push_predecessors.Given as goal

abbrev pub invariant-loop-provide : goal.invariant-loop-provide
invariant-loop-provide l = record {
  nodes : All (λ i. i < length l.graph.nodes) l.fn.waiting.items → All (λ i. i < length l.graph.nodes) l.waiting.items;
  count : vec_len l.waiting ≤ vec_len l.fn.waiting + l.provide * length l.graph.links;
  kept : (i : ℕ) → Contains l.fn.waiting.items i → Contains l.waiting.items i;
  callers : (i r x : ℕ) → x < l.provide → r < requires_at l.graph.nodes i → target_of l.graph.links i r ≡ Some (record { node = l.node; provide = x }) → Contains l.waiting.items i;
}
