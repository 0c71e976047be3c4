use Rattle.elaborator.specs.Expansion.{expanded_of}
use Rattle.elaborator.specs.NodeOrder.{AreListed}
use Rattle.elaborator.proofs.nodes.list_nodes.Given as goal

abbrev pub invariant-loop-number : goal.invariant-loop-number
invariant-loop-number l = AreListed (expanded_of l.fn.expansion) l.number l.listed.items
