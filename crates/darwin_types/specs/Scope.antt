-- To be believed (definitions.md).
-- What a description declares: its components by name, and the parameters, ports, arrays, instances and entries of
-- each component. Where a name is declared twice, a look-up finds the first.
use Rattle.std.specs.Prelude.{ℕ, List, [], ◌∷◌, ◌++◌, Option, Bool, ◌==◌, find, length, map, option_map, unwrap_or, is_none, bytes_eq, Some, false}
use Rattle.std.specs.List.{flat_map, list_any}
use Rattle.std.specs.Map.{lookup}
use Rattle.std.specs.Option.{option_or, option_map_or}
use Rattle.darwin_parser.specs.Tree.{Name, Tree, Component, Expr, PortDecl, ArrayDecl, InstEntry, Stmt, Stmts}
use Rattle.darwin_parser.specs.Tree.InstEntry.{single, element}
use Rattle.darwin_parser.specs.Tree.Stmt.{inst, bind, forall, when}
use Rattle.darwin_parser.specs.Tree.Stmts.{end, then}

-- whether a name is one of these
abbrev pub has : List Name → Name → Bool
has names name = list_any (bytes_eq name) names

-- the component with the name
abbrev pub component_named : Tree → Name → Option Component
component_named t name = find (λ c. bytes_eq name c.name) t

abbrev mutual
  -- the `inst` entries of a statement, those in its body counted
  pub entries_of_stmt : Stmt → List InstEntry
  entries_of_stmt (inst e) = e ∷ []
  entries_of_stmt (bind b) = []
  entries_of_stmt (forall x low high body at) = entries_of body
  entries_of_stmt (when test body at) = entries_of body

  -- the `inst` entries of a list of statements, those in bodies counted, in the order of the text
  pub entries_of : Stmts → List InstEntry
  entries_of end = []
  entries_of (then s rest) = entries_of_stmt s ++ entries_of rest

-- a component is primitive where its body, bodies within counted, has no `inst` entry
abbrev pub is_primitive : Component → Bool
is_primitive c = length (entries_of c.body) == 0

-- the port with the name
abbrev pub port_named : Component → Name → Option PortDecl
port_named c name = find (λ p. bytes_eq name p.name) c.ports

-- the number of parameters of the component with the name
abbrev pub params_of_named : Tree → Name → Option ℕ
params_of_named t name = option_map (λ c. length c.params) (component_named t name)

-- whether there is a component with the name that lacks the port
abbrev pub lacks_port : Tree → Name → Name → Bool
lacks_port t component port = option_map_or (λ c. is_none (port_named c port)) (component_named t component) false

-- the array with the name
abbrev pub array_named : Component → Name → Option ArrayDecl
array_named c name = find (λ a. bytes_eq name a.name) c.arrays

-- the instance that an entry declares, with its component; an element declares none
abbrev pub single_of : InstEntry → List (Name × Name)
single_of (single name component args at) = (name, component) ∷ []
single_of (element array index args at) = []

-- the single instances of a component, each with its component
abbrev pub singles_of : Component → List (Name × Name)
singles_of c = flat_map single_of (entries_of c.body)

-- the instances that a component declares, each with its component: its arrays, and then its single instances
abbrev pub instances_of : Component → List (Name × Name)
instances_of c = map (λ a. (a.name, a.component)) c.arrays ++ singles_of c

-- the component of the instance with the name: that of its array, or else of its first single entry
abbrev pub instance_component : Component → Name → Option Name
instance_component c name = lookup (bytes_eq name) (instances_of c)

-- what an entry makes: an instance of this name, its component and its arguments
pub record Instantiation : Type 0 where
  pub name : Name
  pub component : Name
  pub args : List Expr

-- The arguments of an element are its own, where it has a list of them, and else those of the array; an entry without
-- arguments gives none. An element of no array makes nothing.
abbrev pub made_by : Component → InstEntry → Option Instantiation
made_by c (single name component args at) = Some (record { name = name; component = component; args = args })
made_by c (element array index args at) =
    option_map (λ a. record { name = array; component = a.component; args = unwrap_or (option_or args a.args) [] }) (array_named c array)
