-- The bodies of statements as lists.
use Rattle.std.proofs.Common.{◌≡◌, ℕ, List, refl, ap, Vec, Global, rules}
use Rattle.darwin_lexer.specs.declared.token.At.{At}
use Rattle.darwin_parser.specs.declared.tree.Expr as code_expr
use Rattle.darwin_parser.specs.declared.tree.Stmt as code
use Rattle.darwin_parser.specs.declared.tree.Stmt.{items-the_row-Stmt}
use Rattle.darwin_parser.specs.declared.tree.Stmt.TheViews.{the_lemmas}
use Rattle.darwin_parser.specs.Tree.{expr_of, stmt_of, stmts_of, row_of}
use Rattle.darwin_parser.specs.Tree.Stmts.{then}
use Rattle.darwin_parser.specs.Tree.Stmt.{forall, when}

pub row_of_items : (n : _) (k : code.Row_of-Stmt n) → row_of k ≡ stmts_of (items-the_row-Stmt n k)
row_of_items _ code.end_of-Stmt = refl
row_of_items _ (code.more_of-Stmt {n = n} s rest) = ap (then (stmt_of s)) (row_of_items n rest)

pub stmt_of_forall : (x : List ℕ) (low high : code_expr.Expr) (body : Vec code.Stmt Global) (at : At) → stmt_of (code.Forall x low high body at) ≡ forall x (expr_of low) (expr_of high) (stmts_of body.items) at
stmt_of_forall x low high body at = search (rules, the_lemmas, row_of_items)

pub stmt_of_when : (test : code_expr.Expr) (body : Vec code.Stmt Global) (at : At) → stmt_of (code.When test body at) ≡ when (expr_of test) (stmts_of body.items) at
stmt_of_when test body at = search (rules, the_lemmas, row_of_items)
