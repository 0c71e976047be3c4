use Rattle.std.specs.Prelude.{codes, ◌++◌}
use Rattle.std.specs.Fmt.{signed_decimal}
use Rattle.report_writing.proofs.writing.push_more_args.Goals as goal
use Rattle.base.proofs.LinesLaws.{lines_all, lines_more}

pub loop-arg-preserved : goal.loop-arg-preserved
loop-arg-preserved c =
    lines_more (λ arg. codes "," ++ signed_decimal arg) c.args.args.now c.args.text.now.items _ _ c.loop-arg.arg-index _ c.loop-arg-test.true c.loop-arg.invariant c.in_ok-push_behind_comma.ensures

pub returns : goal.returns
returns c = lines_all (λ arg. codes "," ++ signed_decimal arg) c.args.args.now c.args.text.now.items _ c.loop-arg.arg-index c.loop-arg-test.false c.loop-arg.invariant
