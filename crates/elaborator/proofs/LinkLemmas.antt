-- The links of an expansion: which port of a node a chain reaches.
use Rattle.std.proofs.Common.{◌≡◌, ◌∙◌, ℕ, ◌<◌, false, List, Option, Some, None, length, get_or, refl, ap, sym, subst, arith}
use Rattle.std.specs.List.{slice_get}
use Rattle.std.specs.Option.{is_some, option_map}
use Rattle.std.specs.Str.{bytes_eq}
use Rattle.std.proofs.lemmas.Option.{slice_get-map, slice_get_within, slice_get_read, same_Some, none-some, get_or_from_slice_get}
use Rattle.std.proofs.lemmas.List.{length-map}
use Rattle.std.proofs.lemmas.List.Quantifiers.{position-Some}
use Rattle.std.proofs.lemmas.Slice.Eq.{bytes_eq-Decides}
use Rattle.config_graph.specs.declared.kind.Kind.{Kind}
use Rattle.config_graph.specs.declared.node.Node.{Node}
use Rattle.config_graph.specs.declared.node.Target.{Target}
use Rattle.config_graph.specs.Kinds.{row}
use Rattle.darwin_parser.specs.declared.tree.Side.{Side}
use Rattle.darwin_parser.specs.declared.tree.Side.TheVariants.{Provide, Require}
use Rattle.darwin_parser.specs.Tree.{Name, PortDecl, port_of}
use Rattle.darwin_parser.specs.declared.tree.PortDecl as code_port
use Rattle.elaborator.specs.Instances.{Instance}
use Rattle.elaborator.specs.Bindings.{Port}
use Rattle.elaborator.specs.Graph.{node_of, port_at}
use Rattle.elaborator.specs.Numbering.{Expanded, Numbered, IsExpanded}
use Rattle.elaborator.specs.Expansion.{expanded_of, made_of}
use Rattle.elaborator.specs.Ports.{place_of, IsPort}
use Rattle.elaborator.specs.declared.instance.Instance as code_instance
use Rattle.elaborator.specs.declared.instance.Expansion.{Expansion}
use Rattle.elaborator.proofs.PortLemmas.{same_instance, numbered_within}
use Rattle.elaborator.specs.NodeOrder.{AreNodesOf}
use Rattle.elaborator.specs.Links.{IsProvisionNamed, Provides, IsProvided}
use Rattle.elaborator.specs.declared.chains.PortId.{PortId}
use Rattle.elaborator.specs.declared.nodes.Nodes.{Nodes}
use Rattle.elaborator.proofs.IndexLemmas.{same_numbered}
use Rattle.base.proofs.OptionLaws.{None-from_is_some, option_map_some}
use Rattle.base.proofs.PlaceLaws.{value_read}

-- a port of an instance that isn't indexed, by its side and its name
pub record Plain (e : Expanded) (id : PortId) (i : Instance) (side : Side) (name : Name) : Type 0 where
  pub decl : PortDecl
  pub numbered : Numbered e id.instance i
  pub declared : slice_get i.component.ports id.port ≡ Some decl
  pub place : place_of name i.component.ports ≡ Some id.port
  pub has_side : decl.side ≡ side
  pub has_name : decl.name ≡ name
  pub has_no_index : id.index ≡ None

-- the numbers of a port of an instance that has a number
pub plain : (e : Expanded) → IsExpanded e → (id : PortId) (n : ℕ) (i : Instance) (side : Side) (name : Name) → Numbered e n i → IsPort e id (port_at i side name) → Plain e id i side name
plain e expanded id n i side name at port =
    let same = sym port.is_port in
    let number = expanded.distinct id.instance n port.instance i port.numbered at (ap (λ (x : Port). x.path) same) (ap (λ (x : Port). x.depth) same) in
    let numbered = subst (λ k. Numbered e k i) (sym number) at in
    let one = same_numbered e id.instance port.instance i port.numbered numbered in
    let name_is = ap (λ (x : Port). x.name) same in
    record {
      decl = port.decl;
      numbered = numbered;
      declared = subst (λ (j : Instance). slice_get j.component.ports id.port ≡ Some port.decl) one port.declared;
      place = subst (λ (j : Instance). place_of name j.component.ports ≡ Some id.port) one (subst (λ n. place_of n port.instance.component.ports ≡ Some id.port) name_is port.first);
      has_side = ap (λ (x : Port). x.side) same;
      has_name = name_is;
      has_no_index = ap (λ (x : Port). x.index) same;
    }

-- the port of a place that is that of its name
pub plain_port :
    (e : Expanded) (id : PortId) (i : Instance) (d : PortDecl) (side : Side) (name : Name) → Numbered e id.instance i → slice_get i.component.ports id.port ≡ Some d
    → place_of name i.component.ports ≡ Some id.port → d.side ≡ side → id.index ≡ None → IsPort e id (port_at i side name)
plain_port e id i d side name at declared place has_side no_index =
    let passes = (position-Some (λ p. bytes_eq name p.name) i.component.ports id.port d place).1 in
    let named : name ≡ d.name = (bytes_eq-Decides name d.name).0 (ap (λ (p : PortDecl). bytes_eq name p.name) (sym (get_or_from_slice_get i.component.ports id.port d d declared)) ∙ passes) in
    record {
      instance = i;
      decl = d;
      numbered = at;
      declared = declared;
      first = subst (λ n. place_of n i.component.ports ≡ Some id.port) named place;
      is_port =
          ap (λ s. record { path = i.path; depth = i.depth; side = s; name = name; index = None }) (sym has_side)
          ∙ ap (λ n. record { path = i.path; depth = i.depth; side = d.side; name = n; index = None }) named
          ∙ ap (λ x. record { path = i.path; depth = i.depth; side = d.side; name = d.name; index = x }) (sym no_index);
    }

-- a declaration that the code read
pub decl_read :
    (e : Expansion) (n k : ℕ) (x : code_instance.Instance) (i : Instance) (d : code_port.PortDecl) → slice_get (expanded_of e).made n ≡ Some (made_of x) → Numbered (expanded_of e) n i
    → k < length i.component.ports → d ≡ get_or x.component.now.ports.items k d → slice_get i.component.ports k ≡ Some (port_of d)
decl_read e n k x i d made at within read =
    let same = same_instance e n x i made at in
    let inside : k < length x.component.now.ports.items = omega (arith, within, ap (λ (j : Instance). length j.component.ports) same, length-map x.component.now.ports.items port_of) in
    ap (λ (j : Instance). slice_get j.component.ports k) same ∙ slice_get-map port_of x.component.now.ports.items k ∙ ap (option_map port_of) (slice_get_read x.component.now.ports.items _ k d refl inside read)

-- ---- the provision of a node that a port is

-- a provision of a node is one at the place of its instance
provided_place : (e : Expanded) (ns : List Node) (n : Nodes) (id : PortId) (t : Target) → AreNodesOf e ns n → Provides e ns id t → (a : ℕ) × (slice_get n.places.items id.instance ≡ Some (Some a))
provided_place e ns n id t are p = let w = are.place_at id.instance p.instance p.node p.numbered p.is_node in (w.0, w.2)

pub not_provided-composite : (e : Expanded) (ns : List Node) (n : Nodes) (id : PortId) → AreNodesOf e ns n → slice_get n.places.items id.instance ≡ Some None → (t : Target) → ¬ Provides e ns id t
not_provided-composite e ns n id are none t p = let w = provided_place e ns n id t are p in none-some w.0 (same_Some _ _ (sym none ∙ w.1))

provided_plain : (e : Expanded) → IsExpanded e → (ns : List Node) (id : PortId) (t : Target) (p : Provides e ns id t) → Plain e id p.instance Provide p.provision.name
provided_plain e expanded ns id t p = plain e expanded id id.instance p.instance Provide p.provision.name p.numbered p.is_port

pub both_sides : Require ≡ Provide → ⊥
both_sides same = cc

provided_decl :
    (e : Expanded) → IsExpanded e → (ns : List Node) (id : PortId) (i : Instance) (d : PortDecl) → Numbered e id.instance i → slice_get i.component.ports id.port ≡ Some d
    → (t : Target) (p : Provides e ns id t) → (d.side ≡ Provide) × (d.name ≡ p.provision.name)
provided_decl e expanded ns id i d at declared t p =
    let is = provided_plain e expanded ns id t p in
    let one = same_numbered e id.instance i p.instance at p.numbered in
    let same : d ≡ is.decl = same_Some d is.decl (sym declared ∙ ap (λ (j : Instance). slice_get j.component.ports id.port) one ∙ is.declared) in
    (ap (λ (x : PortDecl). x.side) same ∙ is.has_side, ap (λ (x : PortDecl). x.name) same ∙ is.has_name)

pub not_provided-requirement :
    (e : Expanded) → IsExpanded e → (ns : List Node) (id : PortId) (i : Instance) (d : PortDecl) → Numbered e id.instance i → slice_get i.component.ports id.port ≡ Some d
    → d.side ≡ Require → (t : Target) → ¬ Provides e ns id t
not_provided-requirement e expanded ns id i d at declared requires_ t p =
    both_sides (sym requires_ ∙ (provided_decl e expanded ns id i d at declared t p).0)

-- which provision a port of a node is, by its name
pub provided_by_name :
    (e : Expanded) → IsExpanded e → (ns : List Node) (n : Nodes) (id : PortId) (i : Instance) (d : PortDecl) (a : ℕ) (node : Node) (r : Option ℕ) → AreNodesOf e ns n → Numbered e id.instance i
    → slice_get i.component.ports id.port ≡ Some d → place_of d.name i.component.ports ≡ Some id.port → d.side ≡ Provide → id.index ≡ None
    → slice_get n.places.items id.instance ≡ Some (Some a) → slice_get ns a ≡ Some node → IsProvisionNamed node.kind d.name r
    → IsProvided e ns id (option_map (λ p. record { node = a; provide = p }) r)
provided_by_name e expanded ns n id i d a node None are at declared place provides no_index placed stands none = λ t p.
    let w = are.place_at id.instance p.instance p.node p.numbered p.is_node in
    let same_place : w.0 ≡ a = same_Some w.0 a (same_Some _ _ (sym w.2 ∙ placed)) in
    let one : p.node ≡ node = same_Some p.node node (sym w.1 ∙ ap (slice_get ns) same_place ∙ stands) in
    none t.provide (record {
      provision = p.provision;
      is_at = subst (λ (x : Node). slice_get (row x.kind).provides t.provide ≡ Some p.provision) one p.provided;
      is_named = sym (provided_decl e expanded ns id i d at declared t p).1;
    })
provided_by_name e expanded ns n id i d a node (Some number) are at declared place provides no_index placed stands is =
    let w = are.placed id.instance a placed in
    let one : node ≡ w.0 = same_Some node w.0 (sym stands ∙ w.2) in
    let instance = same_numbered e id.instance w.1 i w.3 at in
    record {
      instance = i;
      node = node;
      provision = is.provision;
      numbered = at;
      is_node = ap node_of (sym instance) ∙ w.4 ∙ ap Some (sym one);
      stands = stands;
      provided = is.is_at;
      is_port = plain_port e id i d Provide is.provision.name at declared (subst (λ x. place_of x i.component.ports ≡ Some id.port) (sym is.is_named) place) provides no_index;
    }

-- what the code read of a port of a node: its declaration, and the node
pub record ReadPort (e : Expanded) (ns : List Node) (n : Nodes) (id : PortId) (d : PortDecl) (a : ℕ) (node : Node) : Type 0 where
  pub instance : Instance
  pub numbered : Numbered e id.instance instance
  pub declared : slice_get instance.component.ports id.port ≡ Some d
  pub place : place_of d.name instance.component.ports ≡ Some id.port
  pub placed : slice_get n.places.items id.instance ≡ Some (Some a)
  pub stands : slice_get ns a ≡ Some node

pub place_within : (e : Expanded) (ns : List Node) (n : Nodes) (id : PortId) (x : Port) → AreNodesOf e ns n → IsPort e id x → id.instance < length n.places.items
place_within e ns n id x are port = omega (arith, are.all_placed, numbered_within e id.instance port.instance port.numbered)

pub node_within : (e : Expanded) (ns : List Node) (n : Nodes) (k a : ℕ) → AreNodesOf e ns n → slice_get n.places.items k ≡ Some (Some a) → a < length ns
node_within e ns n k a are placed = let w = are.placed k a placed in slice_get_within ns a w.0 w.2

-- the node of a kind that the code read
pub kind_read :
    (e : Expanded) (ns : List Node) (n : Nodes) (a : ℕ) (kind : Kind) → AreNodesOf e ns n → a < length ns → kind ≡ get_or n.kinds.items a kind
    → (node : Node) × (slice_get ns a ≡ Some node) × (node.kind ≡ kind)
kind_read e ns n a kind are within read =
    let inside : a < length n.kinds.items = omega (arith, within, ap length are.kinds, length-map ns kind_of) in
    option_map_some kind_of (slice_get ns a) kind (sym (slice_get-map kind_of ns a) ∙ ap (λ ks. slice_get ks a) (sym are.kinds) ∙ value_read n.kinds.items a kind inside read)
  where
    kind_of : Node → Kind
    kind_of x = x.kind

pub port_read :
    (e : Expansion) (ns : List Node) (n : Nodes) (id : PortId) (x : Port) (i : code_instance.Instance) (d : code_port.PortDecl) (a : ℕ) (kind : Kind) → AreNodesOf (expanded_of e) ns n → IsPort (expanded_of e) id x
    → slice_get (expanded_of e).made id.instance ≡ Some (made_of i) → d ≡ get_or i.component.now.ports.items id.port d → slice_get n.places.items id.instance ≡ Some (Some a)
    → kind ≡ get_or n.kinds.items a kind → (node : Node) × (node.kind ≡ kind) × ReadPort (expanded_of e) ns n id (port_of d) a node
port_read e ns n id x i d a kind are port made read placed kind_is =
    let declared = decl_read e id.instance id.port i port.instance d made port.numbered (slice_get_within port.instance.component.ports id.port port.decl port.declared) read in
    let same : port.decl ≡ port_of d = same_Some port.decl (port_of d) (sym port.declared ∙ declared) in
    let stands = kind_read (expanded_of e) ns n a kind are (node_within (expanded_of e) ns n id.instance a are placed) kind_is in (
      stands.0,
      stands.2,
      record {
        instance = port.instance;
        numbered = port.numbered;
        declared = declared;
        place = subst (λ (y : PortDecl). place_of y.name port.instance.component.ports ≡ Some id.port) same port.first;
        placed = placed;
        stands = stands.1;
      },
    )

pub provided_of_read :
    (e : Expanded) → IsExpanded e → (ns : List Node) (n : Nodes) (id : PortId) (d : PortDecl) (a : ℕ) (node : Node) (r : Option ℕ) → AreNodesOf e ns n → ReadPort e ns n id d a node → d.side ≡ Provide
    → is_some id.index ≡ false → IsProvisionNamed node.kind d.name r → IsProvided e ns id (option_map (λ p. record { node = a; provide = p }) r)
provided_of_read e expanded ns n id d a node r are read side index named =
    provided_by_name e expanded ns n id read.instance d a node r are read.numbered read.declared read.place side (None-from_is_some id.index index) read.placed read.stands named
