use Rattle.std.proofs.Common.{◌∙◌, sym}
use Rattle.report_check.proofs.RightLemmas.{all_right, not_read, numbers_wrong}
use Rattle.report_check.proofs.deciding.is_right_alone.Goals as goal

pub returns-in_ok-shows_stand-in-Some : goal.returns-in_ok-shows_stand-in-Some
returns-in_ok-shows_stand-in-Some c =
    all_right c.args.start.now c.args.steps.now c.args.report.now c.in-Some.undone (sym c.in_ok-undone.ensures ∙ c.in-Some.is) c.in_ok-shows_stand-in-Some.field-0 c.are_right_numbers.result c.items.result.now c.items.ensures
    c.are_right_numbers.ensures c.if-are_right_numbers.true c.in_ok-shows_stand-in-Some.ensures

pub returns-else-are_right_numbers : goal.returns-else-are_right_numbers
returns-else-are_right_numbers c =
    numbers_wrong c.args.start.now c.args.steps.now c.args.report.now c.in-Some.undone (sym c.in_ok-undone.ensures ∙ c.in-Some.is) c.are_right_numbers.result c.are_right_numbers.ensures c.if-are_right_numbers.false

pub returns-in-None : goal.returns-in-None
returns-in-None c = not_read c.args.start.now c.args.steps.now c.args.report.now c.in_ok-undone.field-0 c.in_ok-undone.ensures c.in-None.is
