-- Look-ups of components and their ports, by places in an index of names.
use Rattle.std.proofs.Common.{◌≡◌, ℕ, ◌<◌, false, not, List, length, map, get_or, position, Option, Some, None, option_map, is_some, is_none, slice_get, bytes_eq, refl, ap, sym, ◌∙◌, arith}
use Rattle.std.specs.List.{find}
use Rattle.std.specs.Option.{option_and_then, option_map_or}
use Rattle.std.proofs.lemmas.List.{length-map}
use Rattle.std.proofs.lemmas.Option.{slice_get-map, slice_get_read}
use Rattle.darwin_parser.specs.declared.tree.Component as code
use Rattle.darwin_parser.specs.Tree.{Name, component_of, port_of, array_of}
use Rattle.darwin_types.specs.Scope.{has, component_named, port_named, array_named, lacks_port, params_of_named}
use Rattle.darwin_types.specs.Check.{components_of, names_of_components, names_of_ports, names_in_component, names_of_arrays}
use Rattle.base.proofs.FindLaws.{find-map, find-position, is_some-find}
use Rattle.base.proofs.MapLaws.{list_any-map, map-map, position-map}
use Rattle.base.proofs.OptionLaws.{is_none-is_some}

-- what has a name, at the place at which an index of the names has it
named_at : {A B : Type 0} (f : A → B) (name_of : B → Name) (xs : List A) (name : Name) (place : Option ℕ) → place ≡ position (bytes_eq name) (map (λ x. name_of (f x)) xs) → find (λ b. bytes_eq name (name_of b)) (map f xs) ≡ option_map f (option_and_then (slice_get xs) place)
named_at f name_of xs name place is =
    find-map (λ b. bytes_eq name (name_of b)) f xs ∙ ap (option_map f) (find-position (λ x. bytes_eq name (name_of (f x))) xs ∙ ap (option_and_then (slice_get xs)) (sym (is ∙ position-map (bytes_eq name) (λ x. name_of (f x)) xs)))

component_named-at : (cs : List code.Component) (name : Name) (place : Option ℕ) → place ≡ position (bytes_eq name) (names_of_components cs) → component_named (components_of cs) name ≡ option_map component_of (option_and_then (slice_get cs) place)
component_named-at cs name place is = named_at component_of (λ c. c.name) cs name place is

pub array_named-at : (c : code.Component) (name : Name) (place : Option ℕ) → place ≡ position (bytes_eq name) (names_of_arrays c) → array_named (component_of c) name ≡ option_map array_of (option_and_then (slice_get c.arrays.items) place)
array_named-at c name place is = named_at array_of (λ a. a.name) c.arrays.items name place is

-- whether a component has a port with the name
pub is_some-port_named : (c : code.Component) (port : Name) → is_some (port_named (component_of c) port) ≡ has (names_in_component c) port
is_some-port_named c port =
    is_some-find (λ p. bytes_eq port p.name) (map port_of c.ports.items) ∙ list_any-map (λ p. bytes_eq port p.name) port_of c.ports.items ∙ sym (list_any-map (bytes_eq port) (λ p. p.name) c.ports.items)

-- whether a component has an array with the name
pub is_some-array_named : (c : code.Component) (name : Name) → is_some (array_named (component_of c) name) ≡ has (names_of_arrays c) name
is_some-array_named c name =
    is_some-find (λ a. bytes_eq name a.name) (map array_of c.arrays.items) ∙ list_any-map (λ a. bytes_eq name a.name) array_of c.arrays.items ∙ sym (list_any-map (bytes_eq name) (λ a. a.name) c.arrays.items)

lacks_port-found : (o : Option code.Component) (ns : List Name) (port : Name) → option_map names_in_component o ≡ Some ns → option_map_or (λ c. is_none (port_named c port)) (option_map component_of o) false ≡ not (has ns port)
lacks_port-found None ns port h = cc
lacks_port-found (Some c) ns port h =
    let e : names_in_component c ≡ ns = cc in
    is_none-is_some (port_named (component_of c) port) ∙ ap not (is_some-port_named c port ∙ ap (λ ms. has ms port) e)

pub lacks_port-at : (cs : List code.Component) (ports : List (List Name)) (component port : Name) (i : ℕ) (ns : List Name) → ports ≡ names_of_ports cs → Some i ≡ position (bytes_eq component) (names_of_components cs) → slice_get ports i ≡ Some ns → lacks_port (components_of cs) component port ≡ not (has ns port)
lacks_port-at cs ports component port i ns are place at =
    ap (λ o. option_map_or (λ c. is_none (port_named c port)) o false) (component_named-at cs component (Some i) place) ∙ lacks_port-found (slice_get cs i) ns port (sym (slice_get-map names_in_component cs i) ∙ ap (λ ps. slice_get ps i) (sym are) ∙ at)

port-found : (o : Option code.Component) (ns : List Name) (name : Name) → option_map names_in_component o ≡ Some ns → option_map (λ c. position (λ p. bytes_eq name p.name) c.ports) (option_map component_of o) ≡ Some (position (bytes_eq name) ns)
port-found None ns name h = cc
port-found (Some c) ns name h =
    let e : names_in_component c ≡ ns = cc in
    ap Some (position-map (λ p. bytes_eq name p.name) port_of c.ports.items ∙ sym (position-map (bytes_eq name) (λ p. p.name) c.ports.items) ∙ ap (position (bytes_eq name)) e)

-- the place of a port in the component at a place
pub port-at : (cs : List code.Component) (ports : List (List Name)) (i : ℕ) (ns : List Name) (name : Name) → ports ≡ names_of_ports cs → slice_get ports i ≡ Some ns → option_map (λ c. position (λ p. bytes_eq name p.name) c.ports) (slice_get (components_of cs) i) ≡ Some (position (bytes_eq name) ns)
port-at cs ports i ns name are at =
    ap (option_map (λ c. position (λ p. bytes_eq name p.name) c.ports)) (slice_get-map component_of cs i) ∙ port-found (slice_get cs i) ns name (sym (slice_get-map names_in_component cs i) ∙ ap (λ ps. slice_get ps i) (sym are) ∙ at)

pub within_ports : (cs : List code.Component) (names : List Name) (ports : List (List Name)) (i : ℕ) → names ≡ names_of_components cs → ports ≡ names_of_ports cs → i < length names → i < length ports
within_ports cs names ports i named are within =
    omega (arith, ap length named ∙ length-map cs (λ c. c.name), ap length are ∙ length-map cs names_in_component)

pub within_components : (cs : List code.Component) (names : List Name) (i : ℕ) → names ≡ names_of_components cs → i < length names → i < length cs
within_components cs names i named within = omega (arith, ap length named ∙ length-map cs (λ c. c.name))

pub params_of_named-at : (cs : List code.Component) (name : Name) (i : ℕ) (c : code.Component) → Some i ≡ position (bytes_eq name) (names_of_components cs) → slice_get cs i ≡ Some c → params_of_named (components_of cs) name ≡ Some (length c.params.items)
params_of_named-at cs name i c place at = ap (option_map (λ d. length d.params)) (component_named-at cs name (Some i) place ∙ ap (option_map component_of) at)

pub params_of_named-none : (cs : List code.Component) (name : Name) → None ≡ position (bytes_eq name) (names_of_components cs) → params_of_named (components_of cs) name ≡ None
params_of_named-none cs name place = ap (option_map (λ d. length d.params)) (component_named-at cs name None place)

pub lacks_port-none : (cs : List code.Component) (component port : Name) → None ≡ position (bytes_eq component) (names_of_components cs) → lacks_port (components_of cs) component port ≡ false
lacks_port-none cs component port place = ap (λ o. option_map_or (λ c. is_none (port_named c port)) o false) (component_named-at cs component None place)

pub names_of_components-pure : (cs : List code.Component) → map (λ c. c.name) (components_of cs) ≡ names_of_components cs
names_of_components-pure cs = map-map (λ c. c.name) component_of cs

pub within_arrays : (c : code.Component) (names : List Name) (i : ℕ) → names ≡ names_of_arrays c → i < length names → i < length c.arrays.items
within_arrays c names i named within = omega (arith, ap length named ∙ length-map c.arrays.items (λ a. a.name))

-- the index of the ports of the component at a place
pub ports_at : (cs : List code.Component) (ports : List (List Name)) (i : ℕ) (c : code.Component) (names : List Name) → ports ≡ names_of_ports cs → i < length cs → c ≡ get_or cs i c → names ≡ get_or ports i names → names ≡ names_in_component c
ports_at cs ports i c names are within is read =
    let longer : i < length ports = omega (arith, ap length are ∙ length-map cs names_in_component) in
    let found = slice_get_read ports (length ports) i names refl longer read in
    let wanted = ap (λ ps. slice_get ps i) are ∙ slice_get-map names_in_component cs i ∙ ap (option_map names_in_component) (slice_get_read cs (length cs) i c refl within is) in
    let same : Some names ≡ Some (names_in_component c) = sym found ∙ wanted in
    cc
