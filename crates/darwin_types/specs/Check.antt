-- The faults of each part of a description as lists, and what a check of a part answers of them.
use Rattle.std.specs.Prelude.{◌≡◌, ℕ, Bool, false, List, [], ◌∷◌, ◌++◌, Option, Some, None, Result, Contains, map, length, not, ◌==◌, if◌then◌else◌, bytes_eq, is_some, ◌&&◌, filter, unwrap_or}
use Rattle.std.specs.Map.{lookup}
use Rattle.std.specs.Option.{option_map_or, option_or}
use Rattle.std.specs.List.{flat_map}
use Rattle.base.specs.Answers.{Answers}
use Rattle.darwin_parser.specs.declared.tree.Component as code_component
use Rattle.darwin_parser.specs.Tree.{Name, Tree, Component, ArrayDecl, InstEntry, PortRef, Expr, component_of}
use Rattle.darwin_parser.specs.Tree.InstEntry.{single, element}
use Rattle.darwin_types.specs.declared.error.TypeError.{TypeError}
use Rattle.darwin_types.specs.declared.error.TypeError.TheVariants.{TwoComponents, TwoNames, UnknownName, UnknownComponent, ArgCount, UnknownKind, KindPorts, NoMemory}
use Rattle.darwin_types.specs.Scope.{has, is_primitive, port_named, array_named, instance_component, params_of_named, lacks_port}
use Rattle.config_graph.specs.Kinds.{kind_named}
use Rattle.darwin_types.specs.Primitive.{is_like_kind}
use Rattle.darwin_types.specs.NameUses.{NameUse, value, variable, entry, binding_end, names_of, array_uses, port_uses, body_uses}
use Rattle.darwin_types.specs.Faults.{is_repeated, carried}

-- what a check of a part with these faults answers: a value only where there is none, and else one of them
abbrev pub Judges : {T : Type 0} → List TypeError → Result T TypeError → Type 0
Judges faults = Answers NoMemory (λ _. faults ≡ []) (Contains faults)

-- the faults of a part that has this one where a test fails
abbrev pub unless : Bool → TypeError → List TypeError
unless test fault = if test then [] else fault ∷ []

abbrev pub value_faults : Component → List Name → Expr → List TypeError
value_faults c scope e = flat_map (λ x. unless (has scope x) (UnknownName c.name x)) (names_of e)

abbrev pub variable_faults : Component → List Name → Name → List TypeError
variable_faults c scope x = unless (not (has scope x)) (TwoNames c.name x)

-- whether the first declaration of a single instance is like this one
abbrev pub is_first_like : Component → Name → Name → Bool
is_first_like c name component = option_map_or (bytes_eq component) (instance_component c name) false

abbrev pub clash_faults : Component → Name → Name → List TypeError
clash_faults c name component =
    unless (not (is_some (array_named c name)) && is_first_like c name component) (TwoNames c.name name)

-- of an instance with this name, component and number of arguments
abbrev pub call_faults : Tree → Component → Name → Name → ℕ → List TypeError
call_faults t c name component given =
    option_map_or (λ wanted. unless (given == wanted) (ArgCount c.name name (carried wanted) (carried given)))
    (params_of_named t component) (UnknownComponent c.name component ∷ [])

-- of an element of an array, with arguments of its own or without
abbrev pub element_faults : Tree → Component → Name → Option (List Expr) → List TypeError
element_faults t c array args =
    option_map_or (λ a. call_faults t c array a.component (length (unwrap_or (option_or args a.args) [])))
    (array_named c array) (UnknownName c.name array ∷ [])

abbrev pub entry_faults : Tree → Component → InstEntry → List TypeError
entry_faults t c (single name component args at) = clash_faults c name component ++ call_faults t c name component (length args)
entry_faults t c (element array index args at) = element_faults t c array args

abbrev pub inner_end_faults : Tree → Component → Name → Name → List TypeError
inner_end_faults t c inst port =
    option_map_or (λ k. unless (not (lacks_port t k port)) (UnknownName c.name port)) (instance_component c inst)
    (UnknownName c.name inst ∷ [])

abbrev pub outer_end_faults : Component → Name → List TypeError
outer_end_faults c port = unless (is_some (port_named c port)) (UnknownName c.name port)

abbrev pub end_faults : Tree → Component → PortRef → List TypeError
end_faults t c e = option_map_or (λ x. inner_end_faults t c x e.port) e.inst (outer_end_faults c e.port)

-- the faults of a use of names
abbrev pub use_faults : Tree → Component → NameUse → List TypeError
use_faults t c (value scope e) = value_faults c scope e
use_faults t c (variable scope x) = variable_faults c scope x
use_faults t c (entry e) = entry_faults t c e
use_faults t c (binding_end e) = end_faults t c e

abbrev pub uses_faults : Tree → Component → List NameUse → List TypeError
uses_faults t c ps = flat_map (use_faults t c) ps

-- of an array: its component, and then the names that it uses
abbrev pub array_faults : Tree → Component → List Name → ArrayDecl → List TypeError
array_faults t c params a =
    unless (is_some (params_of_named t a.component)) (UnknownComponent c.name a.component) ++ uses_faults t c (array_uses params a)

abbrev pub arrays_faults : Tree → Component → List Name → List ArrayDecl → List TypeError
arrays_faults t c params arrays = flat_map (array_faults t c params) arrays

-- that two names of one class are this one, in a component or else in the description
abbrev pub repeat_fault : Option Name → Name → TypeError
repeat_fault None x = TwoComponents x
repeat_fault (Some c) x = TwoNames c x

-- of names that should differ
abbrev pub repeat_faults : (Name → TypeError) → List Name → List TypeError
repeat_faults fault names = map fault (filter (is_repeated names) names)

-- two lists of names, and of what they stand for, in which each name is found alike
abbrev pub SameLookups : List (Name × Name) → List (Name × Name) → Type 0
SameLookups xs ys = (x : Name) → lookup (bytes_eq x) xs ≡ lookup (bytes_eq x) ys

-- the components that values of the program stand for
abbrev pub components_of : List code_component.Component → Tree
components_of cs = map component_of cs

-- the names of components, and those of the ports of each
abbrev pub names_of_components : List code_component.Component → List Name
names_of_components cs = map (λ c. c.name) cs

abbrev pub names_in_component : code_component.Component → List Name
names_in_component c = map (λ p. p.name) c.ports.items

abbrev pub names_of_ports : List code_component.Component → List (List Name)
names_of_ports cs = map names_in_component cs

-- of the ports of a component: two of one name
abbrev pub port_faults : Component → List TypeError
port_faults c = repeat_faults (TwoNames c.name) (map (λ p. p.name) c.ports)

-- of the components as a whole, and of their ports: two of one name
abbrev pub directory_faults : Tree → List TypeError
directory_faults t = repeat_faults TwoComponents (map (λ c. c.name) t) ++ flat_map port_faults t

abbrev pub names_of_arrays : code_component.Component → List Name
names_of_arrays c = map (λ a. a.name) c.arrays.items

-- look-ups in these pairs find the instances of the component
abbrev pub FindsInstances : List (Name × Name) → code_component.Component → Type 0
FindsInstances pairs c = (x : Name) → lookup (bytes_eq x) pairs ≡ instance_component (component_of c) x

-- of a primitive component
abbrev pub primitive_faults : Component → List TypeError
primitive_faults c =
    option_map_or (λ k. unless (is_like_kind k c) (KindPorts c.name)) (kind_named c.name) (UnknownKind c.name ∷ [])

-- of the parameters of a component, and of its arrays: two of one name
abbrev pub param_faults : Component → List TypeError
param_faults c = repeat_faults (TwoNames c.name) c.params

abbrev pub array_name_faults : Component → List TypeError
array_name_faults c = repeat_faults (TwoNames c.name) (map (λ a. a.name) c.arrays)

-- of a component as a kind: where it is primitive
abbrev pub kind_faults : Component → List TypeError
kind_faults c = if is_primitive c then primitive_faults c else []

-- of the names that a component uses, of its arrays, and of it as a kind
abbrev pub declared_faults : Tree → Component → List TypeError
declared_faults t c =
    uses_faults t c (flat_map (port_uses c.params) c.ports)
    ++ (arrays_faults t c c.params c.arrays ++ (uses_faults t c (body_uses c.params c.body) ++ kind_faults c))

-- of a component but for its ports' names
abbrev pub component_faults : Tree → Component → List TypeError
component_faults t c = param_faults c ++ (array_name_faults c ++ declared_faults t c)

-- of a description
abbrev pub unit_faults : Tree → List TypeError
unit_faults t = directory_faults t ++ flat_map (component_faults t) t
