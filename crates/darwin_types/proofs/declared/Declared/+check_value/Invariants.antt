use Rattle.std.proofs.Common.{◌≡◌, ◌≤◌}
use Rattle.darwin_parser.specs.declared.tree.Expr.{size-Expr}
use Rattle.darwin_parser.specs.Tree.{expr_of}
use Rattle.darwin_types.specs.Check.{value_faults}
use Rattle.darwin_types.specs.Within.{component_in}
use Rattle.darwin_types.proofs.declared.Declared.+check_value.Given as goal

abbrev pub decreases-check_value : goal.decreases-check_value
decreases-check_value l = goal.size-check_value l

abbrev pub invariant-loop-rest : goal.invariant-loop-rest
invariant-loop-rest l = record {
  no_deeper : size-Expr l.rest ≤ size-Expr l.value;
  same : value_faults (component_in l.self) l.scope (expr_of l.value) ≡ value_faults (component_in l.self) l.scope (expr_of l.rest);
}
