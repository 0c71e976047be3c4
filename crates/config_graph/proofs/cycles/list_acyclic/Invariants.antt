use Rattle.std.proofs.Common.{◌≡◌, ◌+◌, ◌*◌, ◌<◌, ℕ, All, length, vec_len}
use Rattle.config_graph.specs.Cycles.{OnCycle}
use Rattle.config_graph.specs.Marks.{IsMarked}
use Rattle.config_graph.proofs.ClosureLaws.{IsClosedAt}
use Rattle.config_graph.proofs.SearchLaws.{unseen}
use Rattle.config_graph.proofs.cycles.list_acyclic.Given as goal

abbrev pub invariant-loop-node : goal.invariant-loop-node
invariant-loop-node l = record {
  long : vec_len l.acyclic ≡ length l.graph.nodes;
  nodes : All (λ i. i < length l.graph.nodes) l.waiting.items;
  acyclic : (i : ℕ) → IsMarked l.acyclic.items i → ¬ OnCycle l.graph i;
  closed : (i : ℕ) → i < length l.graph.nodes → IsClosedAt l.graph l.acyclic.items l.waiting.items i;
}

abbrev pub decreases-loop-node : goal.decreases-loop-node
decreases-loop-node l = unseen l.acyclic.items * (length l.graph.links + 1) + vec_len l.waiting
