-- A body as a list of statements, and as the row that a statement keeps.
use Rattle.std.proofs.Common.{◌≡◌, List, [], ◌∷◌, map, Vec, Global, refl, ap, ◌∙◌}
use mathlib.Core.Former.{Count}
use Rattle.darwin_lexer.specs.declared.token.At.{At}
use Rattle.darwin_parser.specs.declared.tree.Expr as code_expr
use Rattle.darwin_parser.specs.declared.tree.Stmt as code
use Rattle.darwin_parser.specs.declared.tree.Stmt.{items-the_row-Stmt, items_hidden-the_row-Stmt-0}
use Rattle.darwin_parser.specs.Tree.{Name, forall, when, then, expr_of, stmt_of, row_of, stmts_of}
use Rattle.darwin_parser.specs.Grammar.{body_of}

row_is : (n : _) (row : code.Row_of-Stmt n) → row_of row ≡ body_of (map stmt_of (items-the_row-Stmt n row))
row_is n code.end_of-Stmt = refl
row_is n (code.more_of-Stmt s rest) = ap (then (stmt_of s)) (row_is _ rest)

abbrev row_at : code.Stmt → (n : Count) × code.Row_of-Stmt n
row_at (code.Forall' x low high shape body at) = (_, body)
row_at (code.When' test shape body at) = (_, body)
row_at _ = (_, code.end_of-Stmt)

pub when_body : (test : code_expr.Expr) (body : Vec code.Stmt Global) (at : At) → stmt_of (code.When test body at) ≡ when (expr_of test) (body_of (map stmt_of body.items)) at
when_body test body at =
    let row = row_at (code.When test body at) in
    ap (λ r. when (expr_of test) r at) (row_is row.0 row.1 ∙ ap (λ xs. body_of (map stmt_of xs)) (items_hidden-the_row-Stmt-0 body))

pub forall_body : (x : Name) (low high : code_expr.Expr) (body : Vec code.Stmt Global) (at : At)
    → stmt_of (code.Forall x low high body at) ≡ forall x (expr_of low) (expr_of high) (body_of (map stmt_of body.items)) at
forall_body x low high body at =
    let row = row_at (code.Forall x low high body at) in
    ap (λ r. forall x (expr_of low) (expr_of high) r at) (row_is row.0 row.1 ∙ ap (λ xs. body_of (map stmt_of xs)) (items_hidden-the_row-Stmt-0 body))

pub stmts_is : (ss : List code.Stmt) → body_of (map stmt_of ss) ≡ stmts_of ss
stmts_is [] = refl
stmts_is (s ∷ ss) = ap (then (stmt_of s)) (stmts_is ss)
