use Rattle.quiesce_replay.specs.ReplayText.{settled_line}
use Rattle.quiesce_replay.proofs.writing.push_settled.Goals as goal
use Rattle.base.proofs.LinesLaws.{lines_all, lines_more}

pub loop-slot-preserved : goal.loop-slot-preserved
loop-slot-preserved c =
    lines_more (settled_line c.args.core.now.state) c.args.nodes.now c.args.text.now.items _ _ c.loop-slot.slot-index _ c.loop-slot-test.true c.loop-slot.invariant c.in_ok-push_node.ensures

pub returns : goal.returns
returns c =
    lines_all (settled_line c.args.core.now.state) c.args.nodes.now c.args.text.now.items _ c.loop-slot.slot-index c.loop-slot-test.false c.loop-slot.invariant
