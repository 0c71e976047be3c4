use Rattle.change_plan.specs.PlanText.{unlink_line}
use Rattle.change_plan.proofs.writing.write_unlinks.Goals as goal
use Rattle.base.proofs.LinesLaws.{lines_all, lines_more}

pub loop-port-preserved : goal.loop-port-preserved
loop-port-preserved c =
    lines_more (unlink_line c.args.graph.now) c.args.ports.now c.args.text.now.items _ _ c.loop-port.port-index _ c.loop-port-test.true c.loop-port.invariant c.in_ok-write_unlink.ensures

pub returns : goal.returns
returns c =
    lines_all (unlink_line c.args.graph.now) c.args.ports.now c.args.text.now.items _ c.loop-port.port-index c.loop-port-test.false c.loop-port.invariant
