use Rattle.std.proofs.Common.{◌≡◌, length}
use Rattle.change_parts.proofs.MemberLemmas.{AreWritten}
use Rattle.change_parts.proofs.members.number_nodes.Given as goal

abbrev pub invariant-loop-number : goal.invariant-loop-number
invariant-loop-number l = record {
  long : length l.numbers.items ≡ length l.graph.nodes;
  are : AreWritten l.graph.nodes l.nodes l.number l.numbers.items;
}
