-- The target of a requirement of a node: the provision that is the end of its chain.
use Rattle.std.proofs.Common.{◌≡◌, ◌∙◌, ℕ, zero, suc, ◌<◌, false, List, length, get_or, Option, Some, None, refl, ap, sym, subst, inl, inr, arith}
use Rattle.std.specs.List.{slice_get}
use Rattle.std.specs.Option.{option_map_or}
use Rattle.std.proofs.lemmas.Bool.{false≢true}
use Rattle.std.proofs.lemmas.Option.{same_Some, none-some}
use Rattle.config_graph.specs.declared.kind.Kind.{Kind}
use Rattle.config_graph.specs.declared.node.Node.{Node}
use Rattle.config_graph.specs.declared.node.Target.{Target}
use Rattle.config_graph.specs.Kinds.{row}
use Rattle.darwin_parser.specs.declared.tree.Side.TheVariants.{Provide, Require}
use Rattle.darwin_parser.specs.Tree.{Name, PortDecl, port_of}
use Rattle.darwin_parser.specs.declared.tree.PortDecl as code_port
use Rattle.darwin_types.specs.Scope.{is_primitive}
use Rattle.elaborator.specs.Instances.{Instance}
use Rattle.elaborator.specs.Bindings.{Port, pair_of, pairs_in, bindings_in, Bound, bound, BoundThrough, at_once, through}
use Rattle.elaborator.specs.Graph.{node_of, port_at, IsLink}
use Rattle.elaborator.specs.Numbering.{Expanded, Numbered, NumberedIn, IsExpanded}
use Rattle.elaborator.specs.Expansion.{expanded_of, made_of, instance_in}
use Rattle.elaborator.specs.PortIndex.{chain_target, chain_end, IsIndex, all_pairs}
use Rattle.elaborator.specs.Ports.{place_of, IsPort}
use Rattle.elaborator.specs.NodeOrder.{AreNodesOf}
use Rattle.elaborator.specs.Links.{Provides, IsProvided, link_to, IsTargeted}
use Rattle.elaborator.specs.declared.chains.PortId.{PortId}
use Rattle.elaborator.specs.declared.instance.Instance as code_instance
use Rattle.elaborator.specs.declared.instance.Expansion.{Expansion}
use Rattle.elaborator.specs.declared.nodes.Nodes.{Nodes}
use Rattle.elaborator.proofs.BoundLemmas.{Owner, within_it, its_own, owner}
use Rattle.elaborator.proofs.RankLemmas.{rank_of_requirement, expanded_composite}
use Rattle.elaborator.proofs.IndexLemmas.{same_numbered, port_functional}
use Rattle.elaborator.proofs.WholeLemmas.{instances_of, instance_stands, numbered_at}
use Rattle.elaborator.proofs.FollowLemmas.{Indexed, end_reached, end_found}
use Rattle.elaborator.proofs.NodeLemmas.{node_parts, node_path}
use Rattle.elaborator.proofs.LinkLemmas.{both_sides, Plain, plain, plain_port, kind_read}
use Rattle.elaborator.proofs.PortLemmas.{same_instance}
use Rattle.base.proofs.ContainsLaws.{Contains-at, Contains-flat_map, Contains-from_flat_map, at_some_place}
use Rattle.base.proofs.PlaceLaws.{value_read}
use Rattle.config_graph.proofs.PathLaws.{one_place}
use Rattle.config_graph.proofs.KindLaws.{only_provision}

-- ---- the ports of a chain

-- the end of a chain is a port
pub end_port : (e : Expanded) (targets : List (PortId × PortId)) → IsIndex e (all_pairs e) targets → (n : ℕ) (k : PortId) (x : Port) → IsPort e k x → (y : Port) × IsPort e (chain_end n targets k) y
unfolding chain_end
end_port e targets index zero k x port = (x, port)
end_port e targets index (suc n) k x port = by_target (λ t y at. end_port e targets index n t y at) (chain_target targets k) refl
  where
    by_target : ((t : PortId) (y : Port) → IsPort e t y → (z : Port) × IsPort e (chain_end n targets t) z) → (o : Option PortId) → chain_target targets k ≡ o → (z : Port) × IsPort e (option_map_or (chain_end n targets) o k) z
    by_target rest None is = (x, port)
    by_target rest (Some t) is = let w = index.sound k t is in rest t w.0.target w.3

-- the numbers of two ports that are bound
record Ends (e : Expanded) (x y : Port) : Type 0 where
  source : PortId
  target : PortId
  is_source : IsPort e source x
  is_target : IsPort e target y

ends : (e : Expanded) (top : Instance) (targets : List (PortId × PortId)) → Indexed e top targets → (x y : Port) → Bound e.tree top x y → Ends e x y
ends e top targets indexed _ _ (bound i p inst there) =
    let at = indexed.is_of.complete i inst in
    let w = indexed.index.complete p (Contains-flat_map (pairs_in e.tree) (instances_of e) i p (Contains-at (instances_of e) at.0 i (instance_stands e at.0 i at.1)) there) in
    record { source = w.0; target = w.1; is_source = w.2; is_target = w.3 }

source_port : (e : Expanded) (top : Instance) (targets : List (PortId × PortId)) → Indexed e top targets → (x y : Port) → BoundThrough e.tree top x y → (k : PortId) × IsPort e k x
source_port e top targets indexed _ _ (at_once x y b) = let w = ends e top targets indexed x y b in (w.source, w.is_source)
source_port e top targets indexed _ _ (through x y z b rest) = let w = ends e top targets indexed x y b in (w.source, w.is_source)

target_port : (e : Expanded) (top : Instance) (targets : List (PortId × PortId)) → Indexed e top targets → (x y : Port) → BoundThrough e.tree top x y → (k : PortId) × IsPort e k y
target_port e top targets indexed _ _ (at_once x y b) = let w = ends e top targets indexed x y b in (w.target, w.is_target)
target_port e top targets indexed _ _ (through x y z b rest) = target_port e top targets indexed y z rest

-- ---- nodes

node_maker : (e : Expanded) → IsExpanded e → (k : ℕ) (i : Instance) (n : Node) → Numbered e k i → node_of i ≡ Some n → (m : ℕ) × NumberedIn e m k i
node_maker e expanded k i n at is = by_maker at.maker at.is_at
  where
    by_maker : (maker : Option ℕ) → slice_get e.made k ≡ Some (record { instance = i; maker = maker }) → (m : ℕ) × NumberedIn e m k i
    by_maker None at = absurd (false≢true (sym (expanded.composite_top k i at) ∙ (node_parts i n is).primitive))
    by_maker (Some m) at = (m, at)

-- a node is one instance
one_node :
    (e : Expanded) → IsExpanded e → (k l : ℕ) (i j : Instance) (n : Node) → Numbered e k i → Numbered e l j → node_of i ≡ Some n → node_of j ≡ Some n → i ≡ j
one_node e expanded k l i j n at at' is is' =
    let a = node_maker e expanded k i n at is in
    let b = node_maker e expanded l j n at' is' in
    let number = expanded.one_path a.0 b.0 k l i j a.1 b.1 (sym (node_path i n is) ∙ node_path j n is') in
    same_numbered e l i j (subst (λ m. Numbered e m i) number at) at'

-- a provision of a node is no source
node_no_source :
    (e : Expanded) (top : Instance) (targets : List (PortId × PortId)) → Indexed e top targets → (id : PortId) (k : ℕ) (i : Instance) (n : Node) (name : Name) → Numbered e k i
    → node_of i ≡ Some n → IsPort e id (port_at i Provide name) → chain_target targets id ≡ None
node_no_source e top targets indexed id k i n name at is port = by_target (chain_target targets id) refl
  where
    refuted : (m : ℕ) (j : Instance) (x : Port) → is_primitive j.component ≡ false → Numbered e m j → x ≡ port_at i Provide name → Owner e m x → ⊥
    refuted m j x composite at_j same (within_it l h at_h side path depth) = both_sides (sym side ∙ ap (λ (y : Port). y.side) same)
    refuted m j x composite at_j same (its_own h at_h side path depth) =
        let number = indexed.expanded.distinct m k h i at_h at (sym path ∙ ap (λ (y : Port). y.path) same) (sym depth ∙ ap (λ (y : Port). y.depth) same) in
        let one = same_numbered e k j i (subst (λ q. Numbered e q j) number at_j) at in
        false≢true (sym composite ∙ ap (λ (q : Instance). is_primitive q.component) one ∙ (node_parts i n is).primitive)

    by_target : (o : Option PortId) → chain_target targets id ≡ o → chain_target targets id ≡ None
    by_target None is_none = is_none
    by_target (Some t) is_some =
        let w = indexed.index.sound id t is_some in
        let from = Contains-from_flat_map (pairs_in e.tree) (instances_of e) w.0 w.1 in
        let place = at_some_place (instances_of e) from.0 from.1 in
        let at_j = numbered_at e place.0 from.0 place.1 in
        let b = Contains-from_flat_map (pair_of e.tree from.0) (bindings_in from.0) w.0 from.2 in
        absurd (refuted place.0 from.0 w.0.source (expanded_composite from.0 b.0 b.1) at_j (port_functional e id w.0.source (port_at i Provide name) w.2 port) (owner e indexed.expanded place.0 from.0 w.0 at_j from.2))

-- a port is one provision at most
one_provided : (e : Expanded) (ns : List Node) (n : Nodes) → AreNodesOf e ns n → (id : PortId) (t u : Target) → Provides e ns id t → Provides e ns id u → t ≡ u
one_provided e ns n are id t u p q =
    let instance = same_numbered e id.instance p.instance q.instance p.numbered q.numbered in
    let node : p.node ≡ q.node = same_Some p.node q.node (sym p.is_node ∙ ap node_of instance ∙ q.is_node) in
    let place = one_place ns are.paths_rise t.node u.node q.node (p.stands ∙ ap Some node) q.stands in
    let number : t.provide ≡ u.provide = only_provision p.node.kind t.provide p.provision p.provided ∙ sym (only_provision q.node.kind u.provide q.provision q.provided) in
    ap (λ x. record { node = x; provide = t.provide }) place ∙ ap (λ x. record { node = u.node; provide = x }) number

-- ---- the target of a requirement

-- the requirement of a node, as a port: where its chain begins
pub record Requirement (e : Expanded) (ns : List Node) (a require : ℕ) (start : PortId) : Type 0 where
  pub node : Node
  pub name : Name
  pub number : ℕ
  pub instance : Instance
  pub stands : slice_get ns a ≡ Some node
  pub required : slice_get (row node.kind).requires_ require ≡ Some name
  pub numbered : Numbered e number instance
  pub is_node : node_of instance ≡ Some node
  pub is_port : IsPort e start (port_at instance Require name)

-- a provision at the end of the chain is linked
provided_linked :
    (e : Expanded) (top : Instance) (targets : List (PortId × PortId)) → Indexed e top targets → (ns : List Node) (a require : ℕ) (start : PortId) (r : Requirement e ns a require start)
    → (t : Target) → Provides e ns (chain_end 68 targets start) t → IsLink e.tree top ns (link_to a require t)
provided_linked e top targets indexed ns a require start r t p =
    let end = end_reached e top targets indexed 68 start (port_at r.instance Require r.name) r.is_port in
    let same = port_functional e (chain_end 68 targets start) end.port (port_at p.instance Provide p.provision.name) end.is_port p.is_port in
    let leads : BoundThrough e.tree top (port_at r.instance Require r.name) (port_at p.instance Provide p.provision.name) = elim end.leads [
      | inl itself ↦ absurd (both_sides (ap (λ (x : Port). x.side) (sym itself ∙ same)))
      | inr way ↦ subst (BoundThrough e.tree top (port_at r.instance Require r.name)) same way
    ] in
    record {
      from = r.node;
      to = p.node;
      from_there = r.stands;
      to_there = p.stands;
      linked = record {
        from = record { instance = r.instance; is_instance = indexed.is_of.sound r.number r.instance r.numbered; is_node = r.is_node };
        to = record { instance = p.instance; is_instance = indexed.is_of.sound (chain_end 68 targets start).instance p.instance p.numbered; is_node = p.is_node };
        required = r.name;
        provided = p.provision;
        requires_it = r.required;
        provides_it = p.provided;
        leads = leads;
      };
    }

-- what a requirement is linked to is at the end of its chain
linked_provided :
    (e : Expanded) (top : Instance) (targets : List (PortId × PortId)) → Indexed e top targets → (ns : List Node) (a require : ℕ) (start : PortId) (r : Requirement e ns a require start)
    → (t : Target) → IsLink e.tree top ns (link_to a require t) → Provides e ns (chain_end 68 targets start) t
linked_provided e top targets indexed ns a require start r t l =
    let k = l.linked in
    let from_node : l.from ≡ r.node = same_Some l.from r.node (sym l.from_there ∙ r.stands) in
    let from_at = indexed.is_of.complete k.from.instance k.from.is_instance in
    let from : k.from.instance ≡ r.instance = one_node e indexed.expanded from_at.0 r.number k.from.instance r.instance r.node from_at.1 r.numbered (k.from.is_node ∙ ap Some from_node) r.is_node in
    let name : k.required ≡ r.name = same_Some k.required r.name (sym (subst (λ (x : Node). slice_get (row x.kind).requires_ require ≡ Some k.required) from_node k.requires_it) ∙ r.required) in
    let source : port_at k.from.instance Require k.required ≡ port_at r.instance Require r.name = ap (λ i. port_at i Require k.required) from ∙ ap (port_at r.instance Require) name in
    let to_at = indexed.is_of.complete k.to.instance k.to.is_instance in
    let target = port_at k.to.instance Provide k.provided.name in
    let leads : BoundThrough e.tree top (port_at r.instance Require r.name) target = subst (λ x. BoundThrough e.tree top x target) source k.leads in
    let id = target_port e top targets indexed (port_at r.instance Require r.name) target leads in
    let last = node_no_source e top targets indexed id.0 to_at.0 k.to.instance l.to k.provided.name to_at.1 k.to.is_node id.1 in
    let few = rank_of_requirement (port_at r.instance Require r.name) refl (indexed.expanded.shallow r.number r.instance r.numbered) in
    let found = end_found e top targets indexed 68 start id.0 (port_at r.instance Require r.name) target leads r.is_port id.1 last (omega (arith, few)) in
    let plain_target = plain e indexed.expanded id.0 to_at.0 k.to.instance Provide k.provided.name to_at.1 id.1 in
    subst (λ x. Provides e ns x t) (sym found) (record {
      instance = k.to.instance;
      node = l.to;
      provision = k.provided;
      numbered = plain_target.numbered;
      is_node = k.to.is_node;
      stands = l.to_there;
      provided = k.provides_it;
      is_port = id.1;
    })

-- the answer at the end of the chain is the answer for the requirement
pub targeted :
    (e : Expanded) (top : Instance) (targets : List (PortId × PortId)) → Indexed e top targets → (ns : List Node) (n : Nodes) → AreNodesOf e ns n → (a require : ℕ) (start : PortId)
    → Requirement e ns a require start → (r : Option Target) → IsProvided e ns (chain_end 68 targets start) r → IsTargeted e.tree top ns a require r
targeted e top targets indexed ns n are a require start req None none = λ t l. none t (linked_provided e top targets indexed ns a require start req t l)
targeted e top targets indexed ns n are a require start req (Some t) p = record {
  is_link = provided_linked e top targets indexed ns a require start req t p;
  only = λ u l. one_provided e ns n are (chain_end 68 targets start) u t (linked_provided e top targets indexed ns a require start req u l) p;
}

-- a requirement that is no port of the instance is linked to nothing
pub untargeted :
    (e : Expanded) (top : Instance) (targets : List (PortId × PortId)) → Indexed e top targets → (ns : List Node) (a require : ℕ) (node : Node) (name : Name) (number : ℕ) (i : Instance)
    → slice_get ns a ≡ Some node → slice_get (row node.kind).requires_ require ≡ Some name → Numbered e number i → node_of i ≡ Some node
    → ((k : PortId) → ¬ Plain e k i Require name) → (t : Target) → ¬ IsLink e.tree top ns (link_to a require t)
untargeted e top targets indexed ns a require node name number i stands required numbered is_node no_port t l =
    let k = l.linked in
    let from_node : l.from ≡ node = same_Some l.from node (sym l.from_there ∙ stands) in
    let from_at = indexed.is_of.complete k.from.instance k.from.is_instance in
    let from : k.from.instance ≡ i = one_node e indexed.expanded from_at.0 number k.from.instance i node from_at.1 numbered (k.from.is_node ∙ ap Some from_node) is_node in
    let same : k.required ≡ name = same_Some k.required name (sym (subst (λ (x : Node). slice_get (row x.kind).requires_ require ≡ Some k.required) from_node k.requires_it) ∙ required) in
    let source : port_at k.from.instance Require k.required ≡ port_at i Require name = ap (λ j. port_at j Require k.required) from ∙ ap (port_at i Require) same in
    let id = source_port e top targets indexed (port_at k.from.instance Require k.required) _ k.leads in
    no_port id.0 (plain e indexed.expanded id.0 number i Require name numbered (subst (IsPort e id.0) source id.1))

-- ---- what the code read of a requirement

-- a node, and its instance
pub record ReadNode (e : Expansion) (ns : List Node) (a number : ℕ) (node : Node) (x : code_instance.Instance) : Type 0 where
  pub stands : slice_get ns a ≡ Some node
  pub numbered : Numbered (expanded_of e) number (instance_in x)
  pub is_node : node_of (instance_in x) ≡ Some node

pub node_read :
    (e : Expansion) (ns : List Node) (n : Nodes) (a number : ℕ) (kind : Kind) (x : code_instance.Instance) → AreNodesOf (expanded_of e) ns n → a < length n.instances.items
    → kind ≡ get_or n.kinds.items a kind → number ≡ get_or n.instances.items a number → slice_get (expanded_of e).made number ≡ Some (made_of x)
    → (node : Node) × (node.kind ≡ kind) × ReadNode e ns a number node x
node_read e ns n a number kind x are within read_kind read_number made =
    let stands = kind_read (expanded_of e) ns n a kind are (omega (arith, within, are.same_length)) read_kind in
    let w = are.node_at a stands.0 stands.1 in
    let same : w.0 ≡ number = same_Some w.0 number (sym w.2 ∙ value_read n.instances.items a number within read_number) in
    let numbered : Numbered (expanded_of e) number w.1 = subst (λ k. Numbered (expanded_of e) k w.1) same w.3 in
    let one = same_instance e number x w.1 made numbered in
    (stands.0, stands.2, record { stands = stands.1; numbered = subst (Numbered (expanded_of e) number) one numbered; is_node = ap node_of (sym one) ∙ w.4 })

-- its requirement, as a port
pub start_read :
    (e : Expansion) (ns : List Node) (a require number port : ℕ) (node : Node) (name : Name) (x : code_instance.Instance) (d : code_port.PortDecl) → ReadNode e ns a number node x
    → slice_get (row node.kind).requires_ require ≡ Some name → place_of name (instance_in x).component.ports ≡ Some port
    → slice_get (instance_in x).component.ports port ≡ Some (port_of d) → d.side ≡ Require
    → Requirement (expanded_of e) ns a require (record { instance = number; port = port; index = None })
start_read e ns a require number port node name x d read required place declared side = record {
  node = node;
  name = name;
  number = number;
  instance = instance_in x;
  stands = read.stands;
  required = required;
  numbered = read.numbered;
  is_node = read.is_node;
  is_port = plain_port (expanded_of e) (record { instance = number; port = port; index = None }) (instance_in x) (port_of d) Require name read.numbered declared place side refl;
}

-- no requirement has the name
pub no_place : (e : Expanded) (i : Instance) (name : Name) → place_of name i.component.ports ≡ None → (k : PortId) → ¬ Plain e k i Require name
no_place e i name none k p = none-some k.port (sym none ∙ p.place)

pub no_requirement :
    (e : Expanded) (i : Instance) (name : Name) (port : ℕ) (d : PortDecl) → place_of name i.component.ports ≡ Some port → slice_get i.component.ports port ≡ Some d → d.side ≡ Provide
    → (k : PortId) → ¬ Plain e k i Require name
no_requirement e i name port d place declared side k p =
    let same : k.port ≡ port = same_Some k.port port (sym p.place ∙ place) in
    let decl : p.decl ≡ d = same_Some p.decl d (sym p.declared ∙ ap (slice_get i.component.ports) same ∙ declared) in
    both_sides (sym p.has_side ∙ ap (λ (x : PortDecl). x.side) decl ∙ side)
