use Rattle.std.proofs.Common.{sym, subst, option_map}
use Rattle.std.specs.Option.{option_to_list}
use Rattle.darwin_parser.specs.Tree.{expr_of}
use Rattle.darwin_types.specs.NameUses.{values}
use Rattle.darwin_types.specs.Check.{Judges, uses_faults}
use Rattle.darwin_types.specs.Within.{tree_in, component_in}
use Rattle.darwin_types.proofs.Judged.{Judges_alone}
use Rattle.darwin_types.proofs.declared.Declared.check_optional_value.Goals as goal

pub returns-in-Some : goal.returns-in-Some
returns-in-Some c =
    let d = c.args.self.now in
    subst (λ o. Judges (uses_faults (tree_in d) (component_in d) (values c.args.scope.now (option_to_list (option_map expr_of o)))) c.check_value.result) (sym c.in-Some.is) (Judges_alone _ _ c.check_value.ensures)
