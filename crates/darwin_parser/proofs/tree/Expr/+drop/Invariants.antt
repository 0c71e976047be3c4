use Rattle.std.proofs.Common.{◌≤◌}
use Rattle.darwin_parser.specs.declared.tree.Expr.{size-Expr}
use Rattle.darwin_parser.proofs.tree.Expr.+drop.Given as goal

abbrev pub invariant-loop-self : goal.invariant-loop-self
invariant-loop-self l = size-Expr l.self ≤ size-Expr l.initial.self
