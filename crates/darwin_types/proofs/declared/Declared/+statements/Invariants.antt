use Rattle.std.proofs.Common.{◌≡◌, drop}
use Rattle.darwin_parser.specs.Tree.{stmts_of}
use Rattle.darwin_types.specs.NameUses.{body_uses}
use Rattle.darwin_types.specs.Check.{uses_faults}
use Rattle.darwin_types.specs.Within.{tree_in, component_in}
use Rattle.darwin_types.proofs.declared.Declared.+statements.Given as goal

abbrev pub invariant-check_body-loop-stmt : goal.invariant-check_body-loop-stmt
invariant-check_body-loop-stmt l = record {
  scope_kept : l.scope ≡ l.initial.scope;
  rest : uses_faults (tree_in l.self) (component_in l.self) (body_uses l.initial.scope (stmts_of l.body)) ≡ uses_faults (tree_in l.self) (component_in l.self) (body_uses l.initial.scope (stmts_of (drop l.stmt-index l.body)));
}
