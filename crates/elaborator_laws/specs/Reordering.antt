-- Descriptions that say the same in another order: the components, and in a component the ports, the arrays and the
-- statements, in the bodies of `forall` and `when` too, may stand in any order and at any places of the text.
use Rattle.std.specs.Prelude.{◌≡◌, List, [], ◌∷◌, Option}
use Rattle.darwin_lexer.specs.declared.token.At.{At}
use Rattle.darwin_parser.specs.Tree.{Name, Tree, Expr, PortDecl, ArrayDecl, InstEntry, BindEntry, Stmt, inst, bind, forall, when, Stmts, end, then, Component}
use Rattle.darwin_parser.specs.Tree.InstEntry.{single, element}

-- the same elements in another order, but for differences that are allowed
pub data Reordered {A : Type 0} (Same : A → A → Type 0) : List A → List A → Type 0 where
  no_elements : Reordered Same [] []
  kept : (x y : A) (xs ys : List A) → Same x y → Reordered Same xs ys → Reordered Same (x ∷ xs) (y ∷ ys)
  swapped :
      (x y x' y' : A) (xs ys : List A) → Same x x' → Same y y' → Reordered Same xs ys → Reordered Same (x ∷ y ∷ xs) (y' ∷ x' ∷ ys)
  through : (xs ys zs : List A) → Reordered Same xs ys → Reordered Same ys zs → Reordered Same xs zs

-- the same declaration of a port at any place
pub record SamePort (p q : PortDecl) : Type 0 where
  pub side : p.side ≡ q.side
  pub name : p.name ≡ q.name
  pub size : p.size ≡ q.size
  pub note : p.note ≡ q.note

-- the same declaration of an array at any place
pub record SameArray (a b : ArrayDecl) : Type 0 where
  pub name : a.name ≡ b.name
  pub size : a.size ≡ b.size
  pub component : a.component ≡ b.component
  pub args : a.args ≡ b.args

-- the same entry of an instance at any place
pub data SameEntry : InstEntry → InstEntry → Type 0 where
  same_single : (name component : Name) (args : List Expr) (at at' : At)
      → SameEntry (single name component args at) (single name component args at')
  same_element : (array : Name) (index : Expr) (args : Option (List Expr)) (at at' : At)
      → SameEntry (element array index args at) (element array index args at')

-- the same binding at any place
pub record SameBinding (b c : BindEntry) : Type 0 where
  pub left : b.left ≡ c.left
  pub right : b.right ≡ c.right

mutual
  -- the same statement at any place, with its body in any order
  pub data SameStmt : Stmt → Stmt → Type 0 where
    same_inst : (e e' : InstEntry) → SameEntry e e' → SameStmt (inst e) (inst e')
    same_bind : (b b' : BindEntry) → SameBinding b b' → SameStmt (bind b) (bind b')
    same_forall :
        (name : Name) (low high : Expr) (body body' : Stmts) (at at' : At) → SameStmts body body'
        → SameStmt (forall name low high body at) (forall name low high body' at')
    same_when : (test : Expr) (body body' : Stmts) (at at' : At) → SameStmts body body' → SameStmt (when test body at) (when test body' at')

  -- the same statements in any order
  pub data SameStmts : Stmts → Stmts → Type 0 where
    no_stmts : SameStmts end end
    kept_stmt : (s s' : Stmt) (rest rest' : Stmts) → SameStmt s s' → SameStmts rest rest' → SameStmts (then s rest) (then s' rest')
    swapped_stmts :
        (s t s' t' : Stmt) (rest rest' : Stmts) → SameStmt s s' → SameStmt t t' → SameStmts rest rest'
        → SameStmts (then s (then t rest)) (then t' (then s' rest'))
    through_stmts : (a b c : Stmts) → SameStmts a b → SameStmts b c → SameStmts a c

-- the same component, with its ports, arrays and statements in any order; the order of parameters counts
pub record SameComponent (c d : Component) : Type 0 where
  pub name : c.name ≡ d.name
  pub params : c.params ≡ d.params
  pub ports : Reordered SamePort c.ports d.ports
  pub arrays : Reordered SameArray c.arrays d.arrays
  pub body : SameStmts c.body d.body

-- the same description, with its components in any order
abbrev pub SameDescription : Tree → Tree → Type 0
SameDescription t u = Reordered SameComponent t u
