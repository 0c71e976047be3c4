-- The tree of a statement whose body lies in a vector.
use Rattle.std.proofs.Common.{◌≡◌, ◌∙◌, refl, ap, Vec, Global}
use mathlib.Core.Former.{Count}
use Rattle.darwin_lexer.specs.declared.token.At.{At}
use Rattle.darwin_parser.specs.declared.tree.Stmt as code_stmt
use Rattle.darwin_parser.specs.declared.tree.Expr as code_expr
use Rattle.darwin_parser.specs.Tree.{Name, forall, when, then, stmt_of, stmts_of, row_of, expr_of}

row_of_items : (n : _) (r : code_stmt.Row_of-Stmt n) → row_of r ≡ stmts_of (code_stmt.items-the_row-Stmt n r)
row_of_items n code_stmt.end_of-Stmt = refl
row_of_items n (code_stmt.more_of-Stmt s rest) = ap (then (stmt_of s)) (row_of_items _ rest)

-- the body of a statement as it is kept
abbrev body_row : code_stmt.Stmt → (n : Count) × code_stmt.Row_of-Stmt n
body_row (code_stmt.Forall' x low high _ body at) = (_, body)
body_row (code_stmt.When' test _ body at) = (_, body)
body_row _ = (_, code_stmt.end_of-Stmt)

pub stmt_of-Forall :
    (x : Name) (low high : code_expr.Expr) (body : Vec code_stmt.Stmt Global) (at : At)
    → stmt_of (code_stmt.Forall x low high body at) ≡ forall x (expr_of low) (expr_of high) (stmts_of body.items) at
stmt_of-Forall x low high body at =
    let row = body_row (code_stmt.Forall x low high body at) in
    ap (λ b. forall x (expr_of low) (expr_of high) b at) (row_of_items row.0 row.1 ∙ ap stmts_of (code_stmt.items_hidden-the_row-Stmt-0 body))

pub stmt_of-When :
    (test : code_expr.Expr) (body : Vec code_stmt.Stmt Global) (at : At)
    → stmt_of (code_stmt.When test body at) ≡ when (expr_of test) (stmts_of body.items) at
stmt_of-When test body at =
    let row = body_row (code_stmt.When test body at) in
    ap (λ b. when (expr_of test) b at) (row_of_items row.0 row.1 ∙ ap stmts_of (code_stmt.items_hidden-the_row-Stmt-0 body))
