use Rattle.change_plan.specs.PlanText.{create_line}
use Rattle.change_plan.proofs.writing.write_creates.Goals as goal
use Rattle.base.proofs.LinesLaws.{lines_all, lines_more}

pub loop-node-preserved : goal.loop-node-preserved
loop-node-preserved c =
    lines_more (create_line c.args.graph.now) c.args.nodes.now c.args.text.now.items _ _ c.loop-node.node-index _ c.loop-node-test.true c.loop-node.invariant c.in_ok-write_create.ensures

pub returns : goal.returns
returns c =
    lines_all (create_line c.args.graph.now) c.args.nodes.now c.args.text.now.items _ c.loop-node.node-index c.loop-node-test.false c.loop-node.invariant
