use Rattle.std.proofs.Common.{◌≡◌, map, drop}
use Rattle.darwin_parser.specs.Tree.{expr_of}
use Rattle.darwin_types.specs.NameUses.{values}
use Rattle.darwin_types.specs.Check.{uses_faults}
use Rattle.darwin_types.specs.Within.{tree_in, component_in}
use Rattle.darwin_types.proofs.declared.Declared.check_values.Given as goal

abbrev pub invariant-loop-value : goal.invariant-loop-value
invariant-loop-value l =
    uses_faults (tree_in l.self) (component_in l.self) (values l.scope (map expr_of l.exprs)) ≡ uses_faults (tree_in l.self) (component_in l.self) (values l.scope (map expr_of (drop l.value-index l.exprs)))
