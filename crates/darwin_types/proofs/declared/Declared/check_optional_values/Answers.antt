use Rattle.std.proofs.Common.{sym, subst, map, option_map}
use Rattle.darwin_parser.specs.Tree.{expr_of}
use Rattle.darwin_types.specs.NameUses.{values, args_of}
use Rattle.darwin_types.specs.Check.{Judges, uses_faults}
use Rattle.darwin_types.specs.Within.{tree_in, component_in}
use Rattle.darwin_types.proofs.declared.Declared.check_optional_values.Goals as goal

pub returns-in-Some : goal.returns-in-Some
returns-in-Some c =
    let d = c.args.self.now in
    subst (λ o. Judges (uses_faults (tree_in d) (component_in d) (values c.args.scope.now (args_of (option_map (λ l. map expr_of l.items) o)))) c.check_values.result) (sym c.in-Some.is) (rw c.as_slice.ensures.value at c.check_values.ensures)
