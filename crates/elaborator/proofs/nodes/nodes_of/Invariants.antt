use Rattle.elaborator.specs.Expansion.{expanded_of}
use Rattle.elaborator.specs.NodeOrder.{nodes_in, AreFirstNodes}
use Rattle.elaborator.proofs.nodes.nodes_of.Given as goal

abbrev pub invariant-loop-number : goal.invariant-loop-number
invariant-loop-number l = AreFirstNodes (expanded_of l.fn.expansion) l.number-items l.number-index (nodes_in (expanded_of l.fn.expansion) l.nodes.instances.items) l.nodes
