use Rattle.report_writing.specs.Reports.{history_text}
use Rattle.report_writing.proofs.ReportTextLemmas.{line_more}
use Rattle.report_writing.proofs.writing.push_history.Goals as goal
use Rattle.base.proofs.LinesLaws.{lines_all}

pub loop-line-preserved : goal.loop-line-preserved
loop-line-preserved c =
    line_more (history_text) c.args.lines.now c.args.text.now.items _ _ c.loop-line.line-index _ c.loop-line-test.true c.line-item.is c.loop-line.invariant c.in_ok-push_line.ensures

pub returns : goal.returns
returns c = lines_all (history_text) c.args.lines.now c.args.text.now.items _ c.loop-line.line-index c.loop-line-test.false c.loop-line.invariant
