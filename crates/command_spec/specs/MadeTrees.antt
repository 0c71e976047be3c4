-- The tree of the description that `big` makes.
use Rattle.std.specs.Prelude.{ℕ, List, [], ◌∷◌, Option, Some, None, codes}
use Rattle.darwin_parser.specs.declared.tree.Op.TheVariants.{Sub}
use Rattle.darwin_parser.specs.declared.tree.Side.TheVariants.{Provide, Require}
use Rattle.darwin_parser.specs.Tree.{Name, Tree, Expr, num, var, op, forall, end, Component, Stmt, Stmts, ArrayDecl, PortDecl}
use Rattle.darwin_parser.specs.Trees.{array_at, at, binding_at, component_at, element_at, port_at, port_of, row}

abbrev primitive : Name → ℕ → List Name → List PortDecl → Component
primitive name line params ports = component_at (at line 1) name params ports [] end

-- one element for each lane
abbrev of_lanes : Name → Name → Option (List Expr) → ℕ → ArrayDecl
of_lanes name component args column = array_at (at 7 column) name (var (codes "n")) component args

abbrev made : Name → ℕ → Stmt
made name column = element_at (at 9 column) name (var (codes "i"))

abbrev joined : Name → Name → Name → Name → ℕ → ℕ → Stmt
joined from require to provide line column =
    binding_at (at line column) (port_of from (Some (var (codes "i"))) require) (port_of to (Some (var (codes "i"))) provide)

-- what is reached for each lane
abbrev pub lane : Stmts
lane =
    row
    (made (codes "s") 10 ∷ made (codes "m") 16 ∷ made (codes "b") 22 ∷ made (codes "w") 28 ∷ made (codes "t") 34
    ∷ joined (codes "s") (codes "out") (codes "m") (codes "in") 10 10
    ∷ joined (codes "m") (codes "next") (codes "b") (codes "in") 10 31
    ∷ joined (codes "b") (codes "next") (codes "w") (codes "in") 11 10
    ∷ joined (codes "w") (codes "next") (codes "t") (codes "in") 11 32
    ∷ [])

abbrev pub source : Component
source = primitive (codes "source") 1 (codes "n" ∷ []) (port_at (at 1 27) Require (codes "out") None ∷ [])

-- a component that takes at one column and gives at another
abbrev between : Name → ℕ → Name → ℕ → ℕ → Component
between name line param takes gives =
    primitive name line (param ∷ []) (port_at (at line takes) Provide (codes "in") None ∷ port_at (at line gives) Require (codes "next") None ∷ [])

abbrev pub mapping : Component
mapping = between (codes "map") 2 (codes "k") 24 36

abbrev pub buffer : Component
buffer = between (codes "buffer") 3 (codes "cap") 29 41

abbrev pub sink : Component
sink = primitive (codes "sink") 4 [] (port_at (at 4 18) Provide (codes "in") None ∷ [])

abbrev pub lanes : Component
lanes =
    component_at (at 6 1) (codes "Lanes") (codes "n" ∷ codes "k" ∷ []) [] (
    of_lanes (codes "s") (codes "source") (Some (num 20 ∷ [])) 9 ∷ of_lanes (codes "m") (codes "map") (Some (var (codes "k") ∷ [])) 26
    ∷ of_lanes (codes "b") (codes "buffer") (Some (num 2 ∷ [])) 39 ∷ of_lanes (codes "w") (codes "map") (Some (num 3 ∷ [])) 55
    ∷ of_lanes (codes "t") (codes "sink") None 68 ∷ []
    ) (row (forall (codes "i") (num 0) (op Sub (var (codes "n")) (num 1)) lane (at 8 3) ∷ []))

abbrev pub made_tree : Tree
made_tree = source ∷ mapping ∷ buffer ∷ sink ∷ lanes ∷ []
