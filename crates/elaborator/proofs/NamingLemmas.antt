-- Components and ports by their names.
use Rattle.std.proofs.Common.{◌≡◌, ◌∙◌, ℕ, suc, ℤ, eqb, Bool, true, false, List, [], Option, Some, None, length, map, position, bytes_eq, refl, ap, sym, subst}
use Rattle.std.specs.List.{Contains, slice_get}
use Rattle.std.specs.Option.{option_map}
use Rattle.std.proofs.lemmas.Bool.{eq-eqb}
use Rattle.std.proofs.lemmas.Option.{none-some, same_Some, slice_get-map}
use Rattle.std.proofs.lemmas.Slice.Eq.{bytes_eq-Decides}
use Rattle.darwin_parser.specs.declared.tree.Component as code
use Rattle.darwin_parser.specs.Tree.{Name, Tree, Component, component_of}
use Rattle.darwin_types.specs.Scope.{component_named, is_primitive}
use Rattle.darwin_walk.specs.Value.{Env, parameters}
use Rattle.elaborator.specs.Instances.{Instance, top_instance, children_in, child_path, instance_of, made_in}
use Rattle.elaborator.specs.Naming.{port_names}
use Rattle.elaborator.specs.Paths.{Path}
use Rattle.elaborator.specs.Ports.{place_of}
use Rattle.base.proofs.ContainsLaws.{Contains-from_filter_map}
use Rattle.base.proofs.FindLaws.{find-at_position, find-no_position, find-some}
use Rattle.base.proofs.MapLaws.{position-map}
use Rattle.base.proofs.OptionLaws.{made_of_two}

-- ---- components by their names

abbrev pub component_name : code.Component → Name
component_name c = c.name

pub component-none : (cs : List code.Component) (name : Name) → position (λ c. bytes_eq name (component_name c)) cs ≡ None → component_named (map component_of cs) name ≡ None
component-none cs name none =
    find-no_position (λ c. bytes_eq name c.name) (map component_of cs) (position-map (λ c. bytes_eq name c.name) component_of cs ∙ none)

pub component-at :
    (cs : List code.Component) (name : Name) (k : ℕ) (x : code.Component) → position (λ c. bytes_eq name (component_name c)) cs ≡ Some k
    → slice_get cs k ≡ Some x → component_named (map component_of cs) name ≡ Some (component_of x)
component-at cs name k x is at =
    find-at_position (λ c. bytes_eq name c.name) (map component_of cs) k (position-map (λ c. bytes_eq name c.name) component_of cs ∙ is)
    ∙ slice_get-map component_of cs k ∙ ap (option_map component_of) at

-- a component that a name finds is found by its own
pub named_own : (tree : Tree) (name : Name) (c : Component) → component_named tree name ≡ Some c → component_named tree c.name ≡ Some c
named_own tree name c named =
    let passes = (find-some (λ d. bytes_eq name d.name) tree c named).1 in
    subst (λ n. component_named tree n ≡ Some c) ((bytes_eq-Decides name c.name).0 passes) named

pub made_named : (tree : Tree) (i j : Instance) → Contains (made_in tree i) j → component_named tree j.component.name ≡ Some j.component
made_named tree i j made =
    let from = Contains-from_filter_map (instance_of tree i) (children_in i) j made in
    let child = from.0 in
    let parts = made_of_two (λ c args. record { path = child_path i child; depth = suc i.depth; component = c; env = parameters c args }) (component_named tree child.component) child.arguments j from.2 in
    subst (λ (x : Instance). component_named tree x.component.name ≡ Some x.component) parts.4 (named_own tree child.component parts.0 parts.2)

-- a place among the names of components, where another tree has the same names
pub place_among :
    (cs : List code.Component) (u : Tree) (name : Name) (o : Option ℕ) → map (λ c. c.name) u ≡ map (λ c. c.name) (map component_of cs)
    → o ≡ position (λ c. bytes_eq name c.name) u → position (λ c. bytes_eq name (component_name c)) cs ≡ o
place_among cs u name o same told =
    let name_of : Component → Name = λ c. c.name in
    sym (told ∙ sym (position-map (bytes_eq name) name_of u) ∙ ap (position (bytes_eq name)) same ∙ position-map (bytes_eq name) name_of (map component_of cs) ∙ position-map (λ c. bytes_eq name c.name) component_of cs)

-- whether the component at a place is primitive, where another tree has primitive ones at the same places
pub primitive_told :
    (cs : List code.Component) (u : Tree) (k : ℕ) (x : code.Component) (b : Bool) → map is_primitive u ≡ map is_primitive (map component_of cs)
    → option_map is_primitive (slice_get u k) ≡ Some b → slice_get cs k ≡ Some x → b ≡ is_primitive (component_of x)
primitive_told cs u k x b same told at =
    let there : slice_get (map is_primitive u) k ≡ Some b = slice_get-map is_primitive u k ∙ told in
    let here : slice_get (map is_primitive (map component_of cs)) k ≡ Some (is_primitive (component_of x)) =
    slice_get-map is_primitive (map component_of cs) k ∙ ap (option_map is_primitive) (slice_get-map component_of cs k ∙ ap (option_map component_of) at) in
    same_Some b (is_primitive (component_of x)) (sym there ∙ ap (λ bs. slice_get bs k) same ∙ here)

places_among : (name : Name) (o : Option Component) (r : Option ℕ) → option_map (λ (c : Component). place_of name c.ports) o ≡ Some r
    → option_map (position (bytes_eq name)) (option_map port_names o) ≡ Some r
places_among name None r told = absurd (none-some r told)
places_among name (Some c) r told = ap Some (position-map (bytes_eq name) (λ p. p.name) c.ports) ∙ told

-- the place of a port in the component that a name finds, where another tree has ports of the same names
pub port_told :
    (cs : List code.Component) (u : Tree) (component name : Name) (k : ℕ) (c : Component) (o : Option ℕ)
    → map port_names u ≡ map port_names (map component_of cs) → position (λ d. bytes_eq component (component_name d)) cs ≡ Some k
    → component_named (map component_of cs) component ≡ Some c → option_map (λ (d : Component). place_of name d.ports) (slice_get u k) ≡ Some o
    → o ≡ place_of name c.ports
port_told cs u component name k c o same is named told =
    let t : Tree = map component_of cs in
    let among : List Name → Option ℕ = position (bytes_eq name) in
    let at : slice_get t k ≡ Some c =
    sym (find-at_position (λ d. bytes_eq component d.name) t k (position-map (λ d. bytes_eq component d.name) component_of cs ∙ is)) ∙ named in
    same_Some _ _
    (sym (places_among name (slice_get u k) o told) ∙ ap (option_map among) (sym (slice_get-map port_names u k))
    ∙ ap (λ ns. option_map among (slice_get ns k)) same ∙ ap (option_map among) (slice_get-map port_names t k ∙ ap (option_map port_names) at))
    ∙ position-map (bytes_eq name) (λ p. p.name) c.ports

-- the top, from what the code finds
pub top_is :
    (tree : Tree) (name : Name) (arguments : List ℤ) (c : Component) (path : Path) (env : Env) → component_named tree name ≡ Some c → is_primitive c ≡ false
    → length c.params ≡ length arguments → path ≡ [] → env ≡ parameters c arguments
    → top_instance tree name arguments ≡ Some (record { path = path; depth = 0; component = c; env = env })
top_is tree name arguments c path env named composite params is_path is_env =
    let same : eqb (length c.params) (length arguments) ≡ true = eq-eqb (length c.params) (length arguments) params in
    rw (named, composite, same, is_path, is_env) refl
