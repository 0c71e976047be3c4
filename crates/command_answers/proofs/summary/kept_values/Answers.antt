use Rattle.std.proofs.Common.{[], ◌++◌, ap, ◌∙◌}
use Rattle.command_answers.specs.Summaries.{kept_by}
use Rattle.command_answers.proofs.summary.kept_values.Goals as goal
use Rattle.base.proofs.LinesLaws.{lines_all, lines_more}

pub loop-line-preserved : goal.loop-line-preserved
loop-line-preserved c =
    lines_more (kept_by c.args.logs.now) c.args.history.now [] _ _ c.loop-line.line-index _ c.loop-line-test.true c.loop-line.invariant
    (c.in_ok-push_kept.ensures ∙ ap (λ line. c.loop-line.values.items ++ kept_by c.args.logs.now line) c.line-item.is)

pub returns : goal.returns
returns c = lines_all (kept_by c.args.logs.now) c.args.history.now [] _ c.loop-line.line-index c.loop-line-test.false c.loop-line.invariant
