use Rattle.change_plan.specs.PlanText.{step_line}
use Rattle.change_plan.proofs.writing.write_nodes.Goals as goal
use Rattle.base.proofs.LinesLaws.{lines_all, lines_more}

pub loop-node-preserved : goal.loop-node-preserved
loop-node-preserved c =
    lines_more (step_line c.args.word.now c.args.graph.now) c.args.nodes.now c.args.text.now.items _ _ c.loop-node.node-index _ c.loop-node-test.true c.loop-node.invariant c.in_ok-write_node.ensures

pub returns : goal.returns
returns c =
    lines_all (step_line c.args.word.now c.args.graph.now) c.args.nodes.now c.args.text.now.items _ c.loop-node.node-index c.loop-node-test.false c.loop-node.invariant
