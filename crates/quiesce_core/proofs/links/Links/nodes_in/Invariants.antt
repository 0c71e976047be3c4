use Rattle.quiesce_core.specs.Listed.{AreNodesOf}
use Rattle.quiesce_core.specs.Links.{config_in}
use Rattle.quiesce_core.proofs.links.Links.nodes_in.Given as goal

abbrev pub invariant-loop-slot : goal.invariant-loop-slot
invariant-loop-slot l = AreNodesOf (config_in l.fn.self) l.order l.slot-index l.nodes.items
