use Rattle.std.proofs.Common.{◌∙◌, ◌<◌, ◌↔◌, arith, length, refl, subst, get_or, Contains}
use Rattle.std.proofs.Math.ListN.{length-set}
use Rattle.std.proofs.lemmas.List.{take_all}
use Rattle.config_graph.specs.Marks.{IsMarked}
use Rattle.passive_set.proofs.MarkLemmas.{marks_more}
use Rattle.passive_set.proofs.marks.mark_nodes.Goals as goal

pub loop-node-preserved : goal.loop-node-preserved
loop-node-preserved c =
    let nodes = c.args.nodes.now in
    let i = c.loop-node.node-index in
    let n = get_or nodes i 0 in
    let within : n < length c.loop-node.marks.items = omega (arith, c.requires i 0 c.loop-node-test.true, c.loop-node.invariant.count) in
    record {
      count = length-set c.loop-node.marks.items n _ ∙ c.loop-node.invariant.count;
      marked = marks_more nodes c.loop-node.marks.items i n 0 c.loop-node-test.true refl within c.loop-node.invariant.marked;
    }

pub returns-clause-marked : goal.returns-clause-marked
returns-clause-marked c = λ i.
    let all = take_all c.loop-node.node-index c.args.nodes.now c.loop-node-test.false in
    subst (λ nodes. IsMarked c.loop-node.marks.items i ↔ Contains nodes i) all (c.loop-node.invariant.marked i)
