use Rattle.std.proofs.Common.{◌≡◌, ◌<◌, ℕ, List, length, get_or, drop, Contains}
use Rattle.std.proofs.Math.Seq.{drop-cons}
use Rattle.std.specs.List.{flat_map}
use Rattle.std.proofs.lemmas.List.Elements.{Contains-append_left}
use Rattle.base.proofs.AnswerLaws.{Answers-exit}
use Rattle.darwin_lexer.specs.declared.token.At.{At}
use Rattle.darwin_parser.specs.Tree.{expr_of}
use Rattle.darwin_parser.specs.declared.tree.Expr as code_expr
use Rattle.darwin_walk.specs.Value.{Env, value}
use Rattle.darwin_walk.specs.Instance.{values, value_fault}
use Rattle.darwin_walk.specs.Scope.{exprs_of}
use Rattle.darwin_walk.specs.declared.fault.Fault.{Fault}
use Rattle.darwin_walk.proofs.CauseLaws.{fault-grow}
use Rattle.darwin_walk.proofs.scope.values_at.Goals as goal

-- a fault of the expression at an index is one of those from there on
fault_from :
    (at : At) (env : Env) (xs : List code_expr.Expr) (i : ℕ) (x : code_expr.Expr) (f : Fault)
    → i < length xs → x ≡ get_or xs i x → Contains (value_fault at (value (expr_of x) env)) f
    → Contains (flat_map (value_fault at) (values (exprs_of (drop i xs)) env)) f
fault_from at env xs i x f below is has =
    rw (drop-cons xs i x, ← is) (Contains-append_left _ _ f has)

pub returns-in_err-value_at : goal.returns-in_err-value_at
returns-in_err-value_at c =
    Answers-exit _ _ c.from_residual.ensures.1
    (fault-grow _ _ _ (λ f has. rw c.loop-expr.invariant.no_faults (fault_from _ _ _ _ _ f c.loop-expr-test.true c.expr-item.is has)))
    c.in_err-value_at.ensures
