-- To be believed (definitions.md).
-- The syntax tree of a description, without where it lies in memory. A tree of the program is seen as one
-- of these, so that two trees are equal exactly where they say the same.
use Rattle.std.specs.Prelude.{ℕ, List, [], ◌∷◌, Option, map, option_map}
use Rattle.darwin_lexer.specs.declared.token.At.{At}
use Rattle.darwin_parser.specs.declared.tree.Op.{Op}
use Rattle.darwin_parser.specs.declared.tree.Side.{Side}
use Rattle.darwin_parser.specs.declared.tree.Expr as code_expr
use Rattle.darwin_parser.specs.declared.tree.Stmt as code_stmt
use Rattle.darwin_parser.specs.declared.tree.InstEntry as code_inst
use Rattle.darwin_parser.specs.declared.tree.PortDecl as code_port
use Rattle.darwin_parser.specs.declared.tree.ArrayDecl as code_array
use Rattle.darwin_parser.specs.declared.tree.PortRef as code_end
use Rattle.darwin_parser.specs.declared.tree.BindEntry as code_bind
use Rattle.darwin_parser.specs.declared.tree.Component as code_component
use Rattle.darwin_parser.specs.declared.tree.Unit as code_unit

-- the bytes of a name
abbrev pub Name : Type 0
Name = List ℕ

pub data Expr : Type 0 where
  num : ℕ → Expr
  var : Name → Expr
  neg : Expr → Expr
  op : Op → Expr → Expr → Expr

-- a port, or an array of ports where it has a size
pub record PortDecl : Type 0 where
  pub side : Side
  pub name : Name
  pub size : Option Expr
  pub note : Option (List Name)
  pub at : At

pub record ArrayDecl : Type 0 where
  pub name : Name
  pub size : Expr
  pub component : Name
  pub args : Option (List Expr)
  pub at : At

pub data InstEntry : Type 0 where
  -- name, component, arguments, place
  single : Name → Name → List Expr → At → InstEntry
  -- array, index, arguments of its own, place
  element : Name → Expr → Option (List Expr) → At → InstEntry

pub record PortRef : Type 0 where
  pub inst : Option Name
  pub inst_index : Option Expr
  pub port : Name
  pub port_index : Option Expr

pub record BindEntry : Type 0 where
  pub left : PortRef
  pub right : PortRef
  pub at : At

mutual
  pub data Stmt : Type 0 where
    inst : InstEntry → Stmt
    bind : BindEntry → Stmt
    -- variable, low, high, body, place
    forall : Name → Expr → Expr → Stmts → At → Stmt
    -- test, body, place
    when : Expr → Stmts → At → Stmt

  -- a list of statements
  pub data Stmts : Type 0 where
    end : Stmts
    then : Stmt → Stmts → Stmts

pub record Component : Type 0 where
  pub name : Name
  pub at : At
  pub params : List Name
  pub ports : List PortDecl
  pub arrays : List ArrayDecl
  pub body : Stmts

-- a description: its components, in order
abbrev pub Tree : Type 0
Tree = List Component

abbrev pub expr_of : code_expr.Expr → Expr
expr_of (code_expr.Num n) = num n
expr_of (code_expr.Var x) = var x
expr_of (code_expr.Neg' p e) = neg (expr_of e)
expr_of (code_expr.Op' o p a q b) = op o (expr_of a) (expr_of b)

abbrev pub port_of : code_port.PortDecl → PortDecl
port_of p = record { side = p.side; name = p.name; size = option_map expr_of p.size; note = option_map (λ n. n.items) p.note; at = p.at }

abbrev pub array_of : code_array.ArrayDecl → ArrayDecl
array_of a =
    record { name = a.name; size = expr_of a.size; component = a.component; args = option_map (λ l. map expr_of l.items) a.args; at = a.at }

abbrev pub entry_of : code_inst.InstEntry → InstEntry
entry_of (code_inst.TheVariants.Single name component args at) = single name component (map expr_of args.items) at
entry_of (code_inst.TheVariants.Element array index args at) = element array (expr_of index) (option_map (λ l. map expr_of l.items) args) at

abbrev pub end_of : code_end.PortRef → PortRef
end_of e =
    record { inst = e.inst; inst_index = option_map expr_of e.inst_index; port = e.port; port_index = option_map expr_of e.port_index }

abbrev pub binding_of : code_bind.BindEntry → BindEntry
binding_of b = record { left = end_of b.left; right = end_of b.right; at = b.at }

abbrev mutual
  pub stmt_of : code_stmt.Stmt → Stmt
  stmt_of (code_stmt.Inst e) = inst (entry_of e)
  stmt_of (code_stmt.Bind b) = bind (binding_of b)
  stmt_of (code_stmt.Forall' x low high shape body at) = forall x (expr_of low) (expr_of high) (row_of body) at
  stmt_of (code_stmt.When' test shape body at) = when (expr_of test) (row_of body) at

  pub row_of : {m : _} → code_stmt.Row_of-Stmt m → Stmts
  row_of code_stmt.end_of-Stmt = end
  row_of (code_stmt.more_of-Stmt s rest) = then (stmt_of s) (row_of rest)

-- the statements of a list
abbrev pub stmts_of : List code_stmt.Stmt → Stmts
stmts_of [] = end
stmts_of (s ∷ rest) = then (stmt_of s) (stmts_of rest)

abbrev pub component_of : code_component.Component → Component
component_of c =
    record {
      name = c.name;
      at = c.at;
      params = c.params.items;
      ports = map port_of c.ports.items;
      arrays = map array_of c.arrays.items;
      body = stmts_of c.body.items;
    }

abbrev pub tree_of : code_unit.Unit → Tree
tree_of u = map component_of u.components.items
