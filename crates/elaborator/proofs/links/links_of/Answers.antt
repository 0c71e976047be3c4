use Rattle.std.proofs.Common.{arith}
use Rattle.elaborator.specs.Expansion.{expanded_of}
use Rattle.elaborator.specs.NodeOrder.{nodes_in}
use Rattle.elaborator.proofs.AllLinksLemmas.{links-all}
use Rattle.elaborator.proofs.links.links_of.Goals as goal

pub returns : goal.returns
returns c = λ top is_of.
    let e = expanded_of c.args.expansion.now in
    let n = c.args.nodes.now in
    links-all e.tree top (nodes_in e n.instances.items) c.loop-from.from c.loop-from.links.items (omega (arith, n.instances.ok.0, c.requires.nodes.same_length, c.len-from-end.ensures, c.loop-from-test.false)) (c.loop-from.invariant top is_of)
