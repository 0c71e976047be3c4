use Rattle.elaborator.specs.Instances.{Instance}
use Rattle.elaborator.specs.Numbering.{IsOf}
use Rattle.elaborator.specs.Expansion.{expanded_of}
use Rattle.elaborator.specs.NodeOrder.{nodes_in}
use Rattle.elaborator.specs.Links.{AreFirstLinks}
use Rattle.elaborator.proofs.links.add_links.Given as goal

-- the links of the requirements so far
abbrev pub invariant-loop-require : goal.invariant-loop-require
invariant-loop-require l =
    let tree = (expanded_of l.fn.expansion).tree in
    let nodes = nodes_in (expanded_of l.fn.expansion) l.fn.nodes.instances.items in
    (top : Instance) → IsOf (expanded_of l.fn.expansion) top → AreFirstLinks tree top nodes l.fn.from 0 l.fn.links.items
    → AreFirstLinks tree top nodes l.fn.from l.require l.links.items
