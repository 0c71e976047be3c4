use Rattle.change_plan.specs.PlanText.{link_line}
use Rattle.change_plan.proofs.writing.write_links.Goals as goal
use Rattle.base.proofs.LinesLaws.{lines_all, lines_more}

pub loop-link-preserved : goal.loop-link-preserved
loop-link-preserved c =
    lines_more (link_line c.args.graph.now) c.args.links.now c.args.text.now.items _ _ c.loop-link.link-index _ c.loop-link-test.true c.loop-link.invariant c.in_ok-write_link.ensures

pub returns : goal.returns
returns c =
    lines_all (link_line c.args.graph.now) c.args.links.now c.args.text.now.items _ c.loop-link.link-index c.loop-link-test.false c.loop-link.invariant
