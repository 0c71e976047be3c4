-- The line by what the tests of the report came to.
use Rattle.std.proofs.Common.{true, false, refl, subst}
use Rattle.std.specs.Prelude.{◌↔◌, IsTrue}
use Rattle.std.proofs.lemmas.Result.{IfOk-weaker}
use Rattle.change_spec.specs.Consistent.{Consistent}
use Rattle.command_answers.specs.Answers.{consistent_line, unlawful_line}
use Rattle.command_answers.specs.declared.status.Status.TheVariants as status
use Rattle.command_spec.specs.Commands.{IsJudged, can_be, can_not_be}
use Rattle.command_program.specs.Preparing.{statements_in}
use Rattle.command_program.specs.Refusals.{IsLine}
use Rattle.command_program.proofs.judging.judge.Goals as goal

pub returns-then-branch : goal.returns-then-branch
returns-then-branch c =
    let statements = statements_in c.args.asked.now in
    let report = c.args.report.now in
    let decided : IsTrue true ↔ Consistent statements report = subst (λ b. IsTrue b ↔ Consistent statements report) c.if-branch.true (rw c.as_slice.ensures.value at c.in_ok-check_report.ensures) in
    IfOk-weaker c.line.result (IsLine status.Ok consistent_line) (λ answer. IsJudged statements report answer.status answer.text.items)
    (λ answer is. rw (is.status_is, is.text_is) (can_be (decided.0 refl))) c.line.ensures

pub returns-else-branch : goal.returns-else-branch
returns-else-branch c =
    let statements = statements_in c.args.asked.now in
    let report = c.args.report.now in
    let decided : IsTrue false ↔ Consistent statements report = subst (λ b. IsTrue b ↔ Consistent statements report) c.if-branch.false (rw c.as_slice.ensures.value at c.in_ok-check_report.ensures) in
    IfOk-weaker c.line-else-branch.result (IsLine status.Unlawful unlawful_line) (λ answer. IsJudged statements report answer.status answer.text.items)
    (λ answer is. rw (is.status_is, is.text_is) (can_not_be (λ can. let is_true : IsTrue false = decided.1 can in cc (is_true)))) c.line-else-branch.ensures
