use Rattle.std.proofs.Common.{◌∙◌, ap}
use Rattle.std.specs.Prelude.{filter_map}
use Rattle.std.proofs.lemmas.List.{take_all}
use Rattle.report_writing.specs.Reports.{made_by}
use Rattle.report_writing.proofs.ReportTextLemmas.{made_more}
use Rattle.report_writing.proofs.writing.list_made.Goals as goal

pub loop-line-preserved : goal.loop-line-preserved
loop-line-preserved c = made_more c.args.history.now c.loop-line.line-index _ _ _ c.loop-line-test.true c.line-item.is c.loop-line.invariant c.in_ok-push_made.ensures

pub returns : goal.returns
returns c = c.loop-line.invariant ∙ ap (filter_map made_by) (take_all c.loop-line.line-index c.args.history.now c.loop-line-test.false)
