use Rattle.std.proofs.Common.{◌≡◌, take}
use Rattle.elaborator.specs.Expansion.{expanded_of}
use Rattle.elaborator.specs.NodeOrder.{nodes_in}
use Rattle.elaborator.proofs.TakenLemmas.{AreKept}
use Rattle.elaborator.proofs.nodes.take_nodes.Given as goal

-- the nodes so far, and the instances of those to come as they were
abbrev pub invariant-loop-place : goal.invariant-loop-place
invariant-loop-place l =
    let numbers = l.fn.nodes.instances.items in
    (l.taken.items ≡ nodes_in (expanded_of l.fn.expansion) (take l.place numbers))
    × AreKept numbers l.place l.fn.expansion.instances.items l.expansion.instances.items
