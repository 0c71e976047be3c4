use Rattle.std.proofs.Common.{◌++◌}
use Rattle.std.proofs.lemmas.List.Elements.{Contains-append_left, Contains-append_right}
use Rattle.std.specs.List.{Contains}
use Rattle.base.proofs.AnswerLaws.{Answers-exit}
use Rattle.darwin_parser.specs.Tree.{component_of}
use Rattle.darwin_types.specs.Check.{components_of, param_faults, array_name_faults, declared_faults}
use Rattle.darwin_types.proofs.Judged.{none-append}
use Rattle.darwin_types.proofs.checking.check_component.Goals as goal

pub returns-in_err-scope-clause-judged : goal.returns-in_err-scope-clause-judged
returns-in_err-scope-clause-judged c =
    Answers-exit _ _ c.from_residual.ensures.1 (Contains-append_left _ _) c.in_err-scope.ensures.judged

pub returns-in_err-arrays-clause-judged : goal.returns-in_err-arrays-clause-judged
returns-in_err-arrays-clause-judged c =
    Answers-exit {Cause = Contains _} _ _ c.from_residual-in_err-arrays.ensures.1 (λ f has. Contains-append_right _ _ f (Contains-append_left _ _ f has)) c.in_err-arrays.ensures.judged

pub returns-in_err-check-clause-judged : goal.returns-in_err-check-clause-judged
returns-in_err-check-clause-judged c =
    let component = component_of c.args.component.now in
    let tree = components_of c.args.directory.now.components.now in
    let arrays = array_name_faults component in
    let declared = declared_faults tree component in
    Answers-exit {Cause = Contains _} _ _ c.from_residual-in_err-check.ensures.1
    (λ f has. Contains-append_right (param_faults component) (arrays ++ declared) f (Contains-append_right arrays declared f has)) c.in_err-check.ensures

pub returns-clause-judged : goal.returns-clause-judged
returns-clause-judged c = none-append _ _ c.in_ok-scope.ensures.judged (none-append _ _ c.in_ok-arrays.ensures.judged c.in_ok-check.ensures)
