use Rattle.std.proofs.Common.{ap, sym, subst, ◌∙◌}
use Rattle.std.specs.List.{Contains}
use Rattle.base.proofs.AnswerLaws.{Answers-exit}
use Rattle.darwin_parser.specs.Tree.{expr_of}
use Rattle.darwin_types.specs.Check.{value_faults}
use Rattle.darwin_types.specs.Within.{component_in}
use Rattle.darwin_types.proofs.Values.{value_faults-right_side}
use Rattle.darwin_types.proofs.declared.Declared.+check_value.Goals as goal

pub returns-in_err-check_value-in-Op : goal.returns-in_err-check_value-in-Op
returns-in_err-check_value-in-Op t c =
    let k = component_in c.args.self.now in
    let scope = c.args.scope.now in
    let whole = c.loop-rest.invariant.same ∙ ap (λ v. value_faults k scope (expr_of v)) c.in-Op.is in
    Answers-exit {Cause = Contains _} _ _ c.from_residual.ensures.1
    (λ f has. subst (λ fs. Contains fs f) (sym whole) (value_faults-right_side k scope c.in-Op.field-0 (expr_of c.in-Op.left.value) (expr_of c.in-Op.right.value) f has))
    (rw c.deref.ensures at c.in_err-check_value-in-Op.ensures)
