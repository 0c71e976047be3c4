use Rattle.elaborator.specs.Instances.{Instance}
use Rattle.elaborator.specs.Numbering.{IsOf}
use Rattle.elaborator.specs.Expansion.{expanded_of}
use Rattle.elaborator.specs.NodeOrder.{nodes_in}
use Rattle.elaborator.specs.Links.{AreFirstLinks}
use Rattle.elaborator.proofs.links.links_of.Given as goal

-- the links of the nodes so far
abbrev pub invariant-loop-from : goal.invariant-loop-from
invariant-loop-from l =
    (top : Instance) → IsOf (expanded_of l.fn.expansion) top → AreFirstLinks (expanded_of l.fn.expansion).tree top (nodes_in (expanded_of l.fn.expansion) l.fn.nodes.instances.items) l.from 0 l.links.items
