use Rattle.std.proofs.Common.{ap, ◌∙◌, drop}
use Rattle.std.specs.List.{flat_map}
use Rattle.base.proofs.AnswerLaws.{Answers-exit}
use Rattle.darwin_parser.specs.Tree.{expr_of}
use Rattle.darwin_types.specs.NameUses.{value}
use Rattle.darwin_types.specs.Check.{use_faults}
use Rattle.darwin_types.specs.Within.{tree_in, component_in}
use Rattle.darwin_types.proofs.declared.Declared.check_values.Goals as goal
use Rattle.base.proofs.ContainsLaws.{Contains-from}
use Rattle.base.proofs.MapLaws.{map-map}

pub returns-in_err-check_value : goal.returns-in_err-check_value
returns-in_err-check_value c =
    let faults = use_faults (tree_in c.args.self.now) (component_in c.args.self.now) in
    let scope = c.args.scope.now in
    let xs = c.args.exprs.now in
    let rest = c.loop-value.invariant ∙ ap (flat_map faults) (map-map (value scope) expr_of (drop c.loop-value.value-index xs)) in
    Answers-exit _ _ c.from_residual.ensures.1 (Contains-from faults (λ x. value scope (expr_of x)) xs c.loop-value.value-index c.value-item.result _ c.loop-value-test.true c.value-item.is rest) c.in_err-check_value.ensures
