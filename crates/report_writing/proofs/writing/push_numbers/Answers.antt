use Rattle.std.specs.Prelude.{codes, decimal, ◌++◌}
use Rattle.report_writing.proofs.writing.push_numbers.Goals as goal
use Rattle.base.proofs.LinesLaws.{lines_all, lines_more}

pub loop-number-preserved : goal.loop-number-preserved
loop-number-preserved c =
    lines_more (λ number. codes " " ++ decimal number) c.args.numbers.now c.args.text.now.items _ _ c.loop-number.number-index _ c.loop-number-test.true c.loop-number.invariant c.in_ok-push_number.ensures

pub returns : goal.returns
returns c = lines_all (λ number. codes " " ++ decimal number) c.args.numbers.now c.args.text.now.items _ c.loop-number.number-index c.loop-number-test.false c.loop-number.invariant
