-- To be believed (definitions.md).
-- Where a component uses names or gives them: each expression and each variable of a `forall` with the
-- names of values round it, each `inst` entry, and each end of a binding.
use Rattle.std.specs.Prelude.{List, [], ◌∷◌, ◌++◌, Option, map, unwrap_or}
use Rattle.std.specs.List.{flat_map}
use Rattle.std.specs.Option.{option_to_list}
use Rattle.darwin_parser.specs.Tree.{Name, Component, PortDecl, ArrayDecl, InstEntry, PortRef, Expr, Stmt, Stmts}
use Rattle.darwin_parser.specs.Tree.Expr.{num, var, neg, op}
use Rattle.darwin_parser.specs.Tree.InstEntry.{single, element}
use Rattle.darwin_parser.specs.Tree.Stmt.{inst, bind, forall, when}
use Rattle.darwin_parser.specs.Tree.Stmts.{end, then}

pub data NameUse : Type 0 where
  -- an expression, and the names that it may use
  value : List Name → Expr → NameUse
  -- the variable of a `forall`, and the names round it
  variable : List Name → Name → NameUse
  entry : InstEntry → NameUse
  binding_end : PortRef → NameUse

-- the names that an expression uses
abbrev pub names_of : Expr → List Name
names_of (num n) = []
names_of (var x) = x ∷ []
names_of (neg e) = names_of e
names_of (op o a b) = names_of a ++ names_of b

-- expressions that may all use the same names
abbrev pub values : List Name → List Expr → List NameUse
values scope es = map (value scope) es

-- the expressions of an argument list, where there is one
abbrev pub args_of : Option (List Expr) → List Expr
args_of args = unwrap_or args []

abbrev pub entry_uses : List Name → InstEntry → List NameUse
entry_uses scope (single name component args at) = entry (single name component args at) ∷ values scope args
entry_uses scope (element array index args at) =
    entry (element array index args at) ∷ value scope index ∷ values scope (args_of args)

abbrev pub end_uses : List Name → PortRef → List NameUse
end_uses scope e =
    binding_end e ∷ values scope (option_to_list e.inst_index) ++ values scope (option_to_list e.port_index)

abbrev mutual
  -- those of a statement, where these names are round it
  pub stmt_uses : List Name → Stmt → List NameUse
  stmt_uses scope (inst e) = entry_uses scope e
  stmt_uses scope (bind b) = end_uses scope b.left ++ end_uses scope b.right
  -- the range doesn't see the variable
  stmt_uses scope (forall x low high body at) =
      value scope low ∷ value scope high ∷ variable scope x ∷ body_uses (scope ++ x ∷ []) body
  stmt_uses scope (when test body at) = value scope test ∷ body_uses scope body

  -- those of a list of statements
  pub body_uses : List Name → Stmts → List NameUse
  body_uses scope end = []
  body_uses scope (then s rest) = stmt_uses scope s ++ body_uses scope rest

-- the sizes of ports and arrays, and the arguments of arrays, see parameters alone
abbrev pub port_uses : List Name → PortDecl → List NameUse
port_uses params p = values params (option_to_list p.size)

abbrev pub array_uses : List Name → ArrayDecl → List NameUse
array_uses params a = value params a.size ∷ values params (args_of a.args)

-- those of a component
abbrev pub name_uses : Component → List NameUse
name_uses c =
    flat_map (port_uses c.params) c.ports ++ flat_map (array_uses c.params) c.arrays ++ body_uses c.params c.body
