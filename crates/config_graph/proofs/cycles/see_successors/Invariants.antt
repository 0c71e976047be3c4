use Rattle.std.proofs.Common.{◌≡◌, length, vec_len}
use Rattle.config_graph.specs.Search.{see_all, seen_of, successors_by}
use Rattle.config_graph.proofs.cycles.see_successors.Given as goal

abbrev pub invariant-loop-require : goal.invariant-loop-require
invariant-loop-require l = record {
  seen : seen_of l.bits.items l.reached.items ≡ see_all (successors_by l.graph l.node l.require) (seen_of l.fn.bits.items l.fn.reached.items);
  long : vec_len l.bits ≡ length l.graph.nodes;
}
