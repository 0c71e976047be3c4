-- The sizes of statements, by which a walk of them ends.
use Rattle.std.proofs.Common.{◌≡◌, ℕ, zero, suc, ◌+◌, ◌<◌, ◌≤◌, List, [], ◌∷◌, length, get_or, drop, refl, ap, add-one, arith}
use Rattle.std.proofs.Math.Seq.{drop-cons}
use Rattle.std.proofs.Math.Nat.{le_refl}
use Rattle.darwin_parser.specs.declared.tree.Stmt as code_stmt
use Rattle.darwin_parser.specs.Tree.{Stmt, inst, bind, forall, when, Stmts, end, then, stmt_of, stmts_of}

abbrev mutual
  pub stmt_size : Stmt → ℕ
  stmt_size (inst e) = 1
  stmt_size (bind b) = 1
  stmt_size (forall x low high body at) = stmts_size body + 1
  stmt_size (when test body at) = stmts_size body + 1

  pub stmts_size : Stmts → ℕ
  stmts_size end = 0
  stmts_size (then s rest) = stmt_size s + stmts_size rest + 1

-- the statement at an index, and those after it
pub stmts_of-drop :
    (body : List code_stmt.Stmt) (i : ℕ) (s : code_stmt.Stmt) → i < length body → s ≡ get_or body i s
    → stmts_of (drop i body) ≡ then (stmt_of s) (stmts_of (drop (i + 1) body))
stmts_of-drop body i s below is = rw (add-one i, drop-cons body i s, ← is) refl

stmts_size-drop : (body : List code_stmt.Stmt) (i : ℕ) → stmts_size (stmts_of (drop i body)) ≤ stmts_size (stmts_of body)
stmts_size-drop body zero = le_refl _
stmts_size-drop [] (suc i) = le_refl _
stmts_size-drop (s ∷ body) (suc i) = omega (arith, stmts_size-drop body i)

pub stmt_size-below :
    (body : List code_stmt.Stmt) (i : ℕ) (s : code_stmt.Stmt) → i < length body → s ≡ get_or body i s
    → stmt_size (stmt_of s) < stmts_size (stmts_of body)
stmt_size-below body i s below is =
    omega (arith, stmts_size-drop body i, ap stmts_size (stmts_of-drop body i s below is))
