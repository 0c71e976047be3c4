-- Parts of trees: those at a place of a text, and those of rows, all at its first.
use Rattle.std.specs.Prelude.{ℕ, List, [], ◌∷◌, Option, Some, None, codes}
use Rattle.darwin_lexer.specs.declared.token.At.{At}
use Rattle.darwin_parser.specs.declared.tree.Side.{Side}
use Rattle.darwin_parser.specs.Tree.{Name, Expr, num, single, element, inst, bind, when, end, then, Component, Stmt, Stmts, ArrayDecl, PortDecl, PortRef}

abbrev pub at : ℕ → ℕ → At
at line column = record { line = line; column = column }

abbrev pub port_at : At → Side → Name → Option (List Name) → PortDecl
port_at place side name note = record { side = side; name = name; size = None; note = note; at = place }

abbrev pub array_at : At → Name → Expr → Name → Option (List Expr) → ArrayDecl
array_at place name size component args =
    record { name = name; size = size; component = component; args = args; at = place }

abbrev pub component_at : At → Name → List Name → List PortDecl → List ArrayDecl → Stmts → Component
component_at place name params ports arrays body =
    record { name = name; at = place; params = params; ports = ports; arrays = arrays; body = body }

-- an element of an array
abbrev pub element_at : At → Name → Expr → Stmt
element_at place name index = inst (element name index None place)

-- a port of an instance, or of an element of an array
abbrev pub port_of : Name → Option Expr → Name → PortRef
port_of name index port = record { inst = Some name; inst_index = index; port = port; port_index = None }

abbrev pub binding_at : At → PortRef → PortRef → Stmt
binding_at place left right = bind (record { left = left; right = right; at = place })

abbrev pub row : List Stmt → Stmts
row [] = end
row (s ∷ rest) = then s (row rest)

abbrev pub here : At
here = at 1 1

abbrev pub port : Side → Name → Option (List Name) → PortDecl
port side name note = port_at here side name note

-- an array of one element
abbrev pub array : Name → Name → ArrayDecl
array name component = array_at here name (num 1) component None

abbrev pub component : Name → List Name → List PortDecl → List ArrayDecl → Stmts → Component
component name params ports arrays body = component_at here name params ports arrays body

abbrev pub instance : Name → Name → List Expr → Stmt
instance name component args = inst (single name component args here)

abbrev pub instance_at : Name → ℕ → Stmt
instance_at name index = element_at here name (num index)

abbrev pub inner : Name → Name → PortRef
inner name port = port_of name None port

abbrev pub outer : Name → PortRef
outer port = record { inst = None; inst_index = None; port = port; port_index = None }

abbrev pub binding : PortRef → PortRef → Stmt
binding left right = binding_at here left right

-- an entry that is reached nowhere, by which a component is composite: `when 0 inst e:NAME(ARGS)`
abbrev pub unreached : Name → List Expr → Stmt
unreached name args = when (num 0) (row (instance (codes "e") name args ∷ [])) here

-- a composite component in which nothing is reached
abbrev pub idle : Name → List PortDecl → Component
idle name ports = component name [] ports [] (row (unreached name [] ∷ []))
