use Rattle.std.proofs.Common.{◌≡◌, List, [], ◌∷◌, length, ◌==◌, refl, ◌∙◌, arith}
use Rattle.std.proofs.lemmas.Bool.Decides.{nat_tests}
use Rattle.darwin_parser.specs.declared.tree.Stmt as code
use Rattle.darwin_parser.specs.Tree.{stmts_of}
use Rattle.darwin_types.specs.Primitive.{is_end}
use Rattle.darwin_types.proofs.primitive.has_no_statement.Goals as goal

is_end-stmts_of : (body : List code.Stmt) → (length body == 0) ≡ is_end (stmts_of body)
is_end-stmts_of [] = refl
is_end-stmts_of (s ∷ rest) = grind (arith, nat_tests)

pub returns : goal.returns
returns c = c.is_empty.ensures ∙ is_end-stmts_of c.args.body.now
