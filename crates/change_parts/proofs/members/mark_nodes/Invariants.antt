use Rattle.std.proofs.Common.{◌≡◌, length}
use Rattle.change_parts.proofs.MemberLemmas.{AreMarked}
use Rattle.change_parts.proofs.members.mark_nodes.Given as goal

abbrev pub invariant-loop-node : goal.invariant-loop-node
invariant-loop-node l = record {
  long : length l.marks.items ≡ l.node-index;
  are : AreMarked l.graph l.nodes l.marks.items;
}
