-- The graph that is built from the live nodes and their links is the graph of the configuration.
use Rattle.std.proofs.Common.{◌≡◌, ◌∙◌, ℕ, zero, suc, ◌+◌, ◌<◌, ◌≤◌, ◌^◌, true, false, List, Option, Some, None, Result, Ok, Err, length, get_or, refl, ap, sym, subst, arith}
use Rattle.std.specs.Prelude.{◌↔◌, slice_get, filter_map, option_map, option_and_then, Contains, All, AllPairs, IfOk}
use Rattle.std.specs.List.{range_with_len}
use Rattle.std.proofs.lemmas.Bool.{false_from_ne_true}
use Rattle.std.specs.Ordering.{nat_cmp}
use Rattle.std.specs.Cmp.Lexicographic.{slice_cmp}
use Rattle.std.specs.declared.cmp.Ordering.TheVariants.{Less}
use Rattle.std.proofs.lemmas.List.Elements.{All-contains}
use Rattle.std.proofs.lemmas.List.FromFn.{get_or-range_with_len, length-range_with_len}
use Rattle.std.proofs.lemmas.List.Kept.{AllPairs-cons}
use Rattle.std.proofs.lemmas.Option.{slice_get-get_or, slice_get_within, get_or_from_slice_get, same_Some}
use Rattle.config_graph.specs.Kinds.{row}
use Rattle.config_graph.specs.Graph.{Graph, IsGraph, IsLinkWithin, OneLinkAPort, PathsRise, begins_at, graph_of, in_port_order, link_at, ports, provides_of, requires_of}
use Rattle.config_graph.specs.Cycles as cycles
use Rattle.config_graph.specs.Sound.{Sound, HasItsArgument}
use Rattle.config_graph.specs.declared.TheConstants.{MAX_NODES, MAX_PORTS}
use Rattle.config_graph.specs.declared.node.Node.{Node}
use Rattle.config_graph.specs.declared.node.Link.{Link}
use Rattle.config_graph.specs.declared.node.Target.{Target}
use Rattle.config_graph.proofs.LinkLaws.{begins_there}
use Rattle.config_graph.proofs.OrderLaws.{IsGraph-graph_of, in_port_order-twice, one_link-in_order}
use Rattle.config_graph.proofs.IncomingLaws.{Contains-in_order, link_at-own}
use Rattle.quiesce_core.specs.declared.state.Slot.{Slot}
use Rattle.quiesce_core.specs.State.{Configuration, slot, gate, owner, target}
use Rattle.quiesce_core.specs.Reach.{wiring_of}
use Rattle.quiesce_core.specs.SameWiring.{IsPortAt}
use Rattle.config_graph.specs.Cycles.{graph_wiring}
use Rattle.config_graph.proofs.WiringLaws.{no_cycle_there}
use Rattle.quiesce_core.specs.WellFormed.{IsSound}
use Rattle.quiesce_core.specs.Named.{AreNamed}
use Rattle.quiesce_core.specs.Live.{StandsAt, IsGraphOf}
use Rattle.quiesce_core.specs.Listed.{path_at, InPathOrder, ArePlaces, AreNodesOf, link_in}
use Rattle.quiesce_core.proofs.CycleLaws.{cycles_are_found}
use Rattle.base.proofs.OptionLaws.{map_or_at}
use Rattle.quiesce_core.proofs.LiveLinkLaws.{IsLiveLink, linked_at}
use Rattle.quiesce_core.proofs.SameWiringLaws.{to_configuration}
use Rattle.quiesce_core.proofs.ConfigurationLaws.{linked_made, port_is}
use Rattle.quiesce_core.proofs.OrderLemmas.{live_at}
use Rattle.base.proofs.ContainsLaws.{Contains-at, Contains-filter_map, at_some_place}
use Rattle.base.proofs.FindLaws.{Contains-find, find_passes}
use Rattle.base.proofs.MapLaws.{All-filter_map}
use Rattle.base.proofs.RangeLaws.{number_at}
use Rattle.config_graph.proofs.NumberingLaws.{ports_from}

-- what the link of a port is made of
pub record IsLinkOf (c : Configuration) (places : List (Option ℕ)) (p : ℕ) (l : Link) : Type 0 where
  pub to : Target
  pub leads : target c p ≡ Some to
  pub from_there : get_or places (owner c p) None ≡ Some l.from
  pub to_there : get_or places to.node None ≡ Some l.to
  pub require : (gate c p).require ≡ l.require
  pub provide : to.provide ≡ l.provide

link_is : (c : Configuration) (places : List (Option ℕ)) (p : ℕ) (l : Link) → link_in c places p ≡ Some l → IsLinkOf c places p l
link_is c places p l = by_target (target c p) refl
  where
    by_place : (t : Target) → target c p ≡ Some t → (i : ℕ) → get_or places (owner c p) None ≡ Some i → (o : Option ℕ) → get_or places t.node None ≡ o
        → option_map (λ j. record { from = i; require = (gate c p).require; to = j; provide = t.provide }) o ≡ Some l → IsLinkOf c places p l
    by_place t leads i from None there e = absurd (cc)
    by_place t leads i from (Some j) there e =
        let same : record { from = i; require = (gate c p).require; to = j; provide = t.provide } ≡ l = same_Some _ l e in
        record {
          to = t;
          leads = leads;
          from_there = from ∙ ap (λ (x : Link). Some x.from) same;
          to_there = there ∙ ap (λ (x : Link). Some x.to) same;
          require = ap (λ (x : Link). x.require) same;
          provide = ap (λ (x : Link). x.provide) same;
        }

    by_owner : (t : Target) → target c p ≡ Some t → (o : Option ℕ) → get_or places (owner c p) None ≡ o
        → option_and_then (λ i. option_map (λ j. record { from = i; require = (gate c p).require; to = j; provide = t.provide }) (get_or places t.node None)) o ≡ Some l → IsLinkOf c places p l
    by_owner t leads None there e = absurd (cc)
    by_owner t leads (Some i) there e = by_place t leads i there (get_or places t.node None) refl e

    by_target : (o : Option Target) → target c p ≡ o
        → option_and_then (λ (t : Target). option_and_then (λ i. option_map (λ j. record { from = i; require = (gate c p).require; to = j; provide = t.provide }) (get_or places t.node None)) (get_or places (owner c p) None)) o ≡ Some l
        → IsLinkOf c places p l
    by_target None leads e = absurd (cc)
    by_target (Some t) leads e = by_owner t leads (get_or places (owner c p) None) refl e

link_if : (c : Configuration) (places : List (Option ℕ)) (p : ℕ) (l : Link) → IsLinkOf c places p l → link_in c places p ≡ Some l
link_if c places p l w =
    ap (λ o. option_and_then (λ (t : Target). option_and_then (λ i. option_map (λ j. record { from = i; require = (gate c p).require; to = j; provide = t.provide }) (get_or places t.node None)) (get_or places (owner c p) None)) o) w.leads
    ∙ ap (λ o. option_and_then (λ i. option_map (λ j. record { from = i; require = (gate c p).require; to = j; provide = w.to.provide }) (get_or places w.to.node None)) o) w.from_there
    ∙ ap (λ o. option_map (λ j. record { from = l.from; require = (gate c p).require; to = j; provide = w.to.provide }) o) w.to_there
    ∙ ap (λ r. Some (record { from = l.from; require = r; to = l.to; provide = w.to.provide })) w.require
    ∙ ap (λ x. Some (record { from = l.from; require = l.require; to = l.to; provide = x })) w.provide

-- members of a filtered range come from numbers in it, in their order
ahead : (a n k q : ℕ) → slice_get (range_with_len a n) k ≡ Some q → a ≤ q
ahead a n k q e =
    let within : k < n = omega (arith, slice_get_within (range_with_len a n) k q e, length-range_with_len a n) in
    omega (arith, get_or-range_with_len a n k q within, get_or_from_slice_get (range_with_len a n) k q q e)

apart_in_range : {A : Type 0} (R : A → A → Type 0) (f : ℕ → Option A) → ((p q : ℕ) (x y : A) → p < q → f p ≡ Some x → f q ≡ Some y → R x y) → (a n : ℕ) → AllPairs R (filter_map f (range_with_len a n))
apart_in_range R f h a zero = λ i j d l u. absurd (omega arith)
apart_in_range R f h a (suc n) = by (f a) refl (apart_in_range R f h (a + 1) n)
  where
    by : (o : Option _) → f a ≡ o → AllPairs R (filter_map f (range_with_len (a + 1) n)) → AllPairs R (filter_map f (range_with_len a (suc n)))
    by None e rest = rw e rest
    by (Some x) e rest = rw e (AllPairs-cons R x (filter_map f (range_with_len (a + 1) n))
        (All-filter_map f (R x) (range_with_len (a + 1) n) (λ k q y at is. h a q x y (omega (arith, ahead (a + 1) n k q at)) e is)) rest)

-- members of a filtered range
from_range : {A : Type 0} (f : ℕ → Option A) (a n : ℕ) (x : A) → Contains (filter_map f (range_with_len a n)) x → (p : ℕ) × (f p ≡ Some x)
from_range f a n x h =
    let held = All-filter_map f (λ y. (p : ℕ) × (f p ≡ Some y)) (range_with_len a n) (λ k q y at is. (q, is)) in
    All-contains (λ y. (p : ℕ) × (f p ≡ Some y)) (filter_map f (range_with_len a n)) x held h

in_range : {A : Type 0} (f : ℕ → Option A) (n p : ℕ) (x : A) → p < n → f p ≡ Some x → Contains (filter_map f (range_with_len 0 n)) x
in_range f n p x h e = Contains-filter_map f (range_with_len 0 n) p p x (number_at n p h) e

abbrev pub links_of : Configuration → List (Option ℕ) → List Link
links_of c places = filter_map (link_in c places) (range_with_len 0 (length c.gates))

module _ (c : Configuration) (sound : IsSound c) (named : AreNamed c) (order : List ℕ) (in_order : InPathOrder c order) (places : List (Option ℕ)) (are_places : ArePlaces order (length order) places)
    (nodes : List Node) (are_nodes : AreNodesOf c order (length order) nodes) where
  -- the slot at a place
  record At (i : ℕ) : Type 0 where
    number : ℕ
    at : slice_get order i ≡ Some number
    made : Slot
    there : slot c number ≡ Some made
    live : made.live ≡ true
    path : path_at c number ≡ made.node.path
    stands : slice_get nodes i ≡ Some made.node

  at_number : (i n : ℕ) → slice_get order i ≡ Some n → At i
  at_number i n at =
      let m = live_at c n (in_order.live i n at) in
      record {
        number = n;
        at = at;
        made = m.made;
        there = m.there;
        live = m.live;
        path = m.path;
        stands = are_nodes.stands i n m.made (slice_get_within order i n at) at m.there;
      }

  at_place : (i : ℕ) → i < length nodes → At i
  at_place i h = at_number i (get_or order i 0) (slice_get-get_or order i 0 (omega (arith, are_nodes.count)))

  placed : (n i : ℕ) → get_or places n None ≡ Some i → slice_get order i ≡ Some n
  placed n i e = ((are_places n i).0 e).1

  stands_at : (n i : ℕ) → get_or places n None ≡ Some i → StandsAt c nodes n i
  unfolding at_number
  stands_at n i e = let w = at_number i n (placed n i e) in record { made = w.made; there = w.there; live = w.live; stands = w.stands }

  place_is : (n i : ℕ) → StandsAt c nodes n i → get_or places n None ≡ Some i
  place_is n i s =
      let w = at_place i (slice_get_within nodes i s.made.node s.stands) in
      let same : w.made.node ≡ s.made.node = same_Some w.made.node s.made.node (sym w.stands ∙ s.stands) in
      let one : w.number ≡ n = named.paths w.number n w.made s.made w.there s.there w.live s.live (ap (λ (m : Node). m.path) same) in
      (are_places n i).1 (slice_get_within order i w.number w.at, w.at ∙ ap Some one)

  pub paths_rise : PathsRise nodes
  paths_rise i j d before within =
      let v = at_place i (omega arith) in
      let w = at_place j within in
      subst (λ (x : Node). slice_cmp nat_cmp x.path (get_or nodes j d).path ≡ Less) (sym (get_or_from_slice_get nodes i v.made.node d v.stands))
      (subst (λ (y : Node). slice_cmp nat_cmp v.made.node.path y.path ≡ Less) (sym (get_or_from_slice_get nodes j w.made.node d w.stands))
      (subst (λ q. slice_cmp nat_cmp v.made.node.path q ≡ Less) w.path (subst (λ q. slice_cmp nat_cmp q (path_at c w.number) ≡ Less) v.path (in_order.rising i j v.number w.number before v.at w.at))))

  link_from : (l : Link) → Contains (links_of c places) l → (p : ℕ) × IsLinkOf c places p l
  link_from l h = let w = from_range (link_in c places) 0 (length c.gates) l h in (w.0, link_is c places w.0 l w.1)

  link_there : (p : ℕ) (l : Link) → IsLinkOf c places p l → Contains (links_of c places) l
  link_there p l w = in_range (link_in c places) (length c.gates) p l (linked_made c p w.to w.leads) (link_if c places p l w)

  pub within : All (IsLinkWithin nodes) (links_of c places)
  within = All-filter_map (link_in c places) (IsLinkWithin nodes) (range_with_len 0 (length c.gates)) (λ k p l at is.
      let w = link_is c places p l is in
      let from = stands_at (owner c p) l.from w.from_there in
      let to = stands_at w.to.node l.to w.to_there in
      let here = port_is c sound p from.made (linked_made c p w.to w.leads) from.there in
      let provided = subst (λ n. w.to.provide < n) (map_or_at (λ (m : Slot). length (row m.node.kind).provides) (slot c w.to.node) 0 to.made to.there) (sound.targets p w.to w.leads).provided in
      record {
        begins = subst (λ n. l.require < n) (sym (map_or_at requires_of (slice_get nodes l.from) 0 from.made.node from.stands)) (subst (λ r. r < requires_of from.made.node) w.require here.1);
        ends = subst (λ n. l.provide < n) (sym (map_or_at provides_of (slice_get nodes l.to) 0 to.made.node to.stands)) (subst (λ x. x < provides_of to.made.node) w.provide provided);
      })

  pub one_link : OneLinkAPort (links_of c places)
  one_link = apart_in_range (λ k l. begins_at k.from k.require l ≡ false) (link_in c places) (λ p q k l before is_k is_l.
      false_from_ne_true (begins_at k.from k.require l) (λ h.
      let same = begins_there k.from k.require l h in
      let v = link_is c places p k is_k in
      let w = link_is c places q l is_l in
      let one : owner c p ≡ owner c q = same_Some (owner c p) (owner c q) (sym (placed (owner c p) k.from v.from_there) ∙ ap (slice_get order) (sym same.0) ∙ placed (owner c q) l.from w.from_there) in
      let at = stands_at (owner c p) k.from v.from_there in
      let here = port_is c sound p at.made (linked_made c p v.to v.leads) at.there in
      let there = port_is c sound q at.made (linked_made c q w.to w.leads) (ap (slot c) (sym one) ∙ at.there) in
      omega (arith, before, here.0, there.0, v.require, w.require, same.1))) 0 (length c.gates)

  pub few_ports : length (ports nodes) < 2 ^ 32
  few_ports = omega (arith, ports_from 0 nodes, are_nodes.count, in_order.few, sound.few_nodes)

  is_graph : IsGraph (graph_of nodes (links_of c places))
  is_graph = IsGraph-graph_of nodes (links_of c places) paths_rise within (omega (arith, are_nodes.count, in_order.few, sound.few_nodes)) few_ports

  same_links : (l : Link) → Contains (in_port_order nodes (links_of c places)) l ↔ Contains (links_of c places) l
  same_links l = Contains-in_order nodes (links_of c places) within one_link l

  linked_live : (i r j x : ℕ) → cycles.IsLinked (graph_of nodes (links_of c places)) i r j x → IsLiveLink c nodes i r j x
  linked_live i r j x = by (link_at (in_port_order nodes (links_of c places)) i r) refl
    where
      by : (o : Option Link) → link_at (in_port_order nodes (links_of c places)) i r ≡ o → option_map {U = Target} (λ (l : Link). record { node = l.to; provide = l.provide }) o ≡ Some (record { node = j; provide = x }) → IsLiveLink c nodes i r j x
      by None at e = absurd (cc)
      by (Some l) at e =
          let begins = begins_there i r l (find_passes (begins_at i r) (in_port_order nodes (links_of c places)) l at) in
          let from = link_from l ((same_links l).0 (Contains-find (begins_at i r) (in_port_order nodes (links_of c places)) l at)) in
          let w = from.1 in
          let u : Target = record { node = l.to; provide = l.provide } in
          let v : Target = record { node = j; provide = x } in
          let t : u ≡ v = same_Some u v e in
          record {
            port = from.0;
            to = w.to.node;
            leads = w.leads ∙ ap (λ y. Some (record { node = w.to.node; provide = y })) (w.provide ∙ ap (λ (u : Target). u.provide) t);
            requirement = w.require ∙ begins.1;
            from_there = subst (λ k. StandsAt c nodes (owner c from.0) k) begins.0 (stands_at (owner c from.0) l.from w.from_there);
            to_there = subst (λ k. StandsAt c nodes w.to.node k) (ap (λ (u : Target). u.node) t) (stands_at w.to.node l.to w.to_there);
          }

  live_linked : (i r j x : ℕ) → IsLiveLink c nodes i r j x → cycles.IsLinked (graph_of nodes (links_of c places)) i r j x
  live_linked i r j x v =
      let l : Link = record { from = i; require = r; to = j; provide = x } in
      let there = link_there v.port l (record {
        to = record { node = v.to; provide = x };
        leads = v.leads;
        from_there = place_is (owner c v.port) i v.from_there;
        to_there = place_is v.to j v.to_there;
        require = v.requirement;
        provide = refl;
      }) in
      ap (λ o. option_map (λ (k : Link). record { node = k.to; provide = k.provide }) o)
      (link_at-own (in_port_order nodes (links_of c places)) l (one_link-in_order (graph_of nodes (links_of c places)) is_graph) ((same_links l).1 there))

  pub graph_is : IsGraphOf c (graph_of nodes (links_of c places))
  graph_is = record {
    paths_rise = paths_rise;
    nodes_are = λ node. (
      λ h.
          let a = at_some_place nodes node h in
          let w = at_place a.0 (slice_get_within nodes a.0 node a.1) in
          (w.number, record { made = w.made; there = w.there; live = w.live; is_node = same_Some w.made.node node (sym w.stands ∙ a.1) }),
      λ l.
          let v = l.1 in
          let a = in_order.all l.0 (map_or_at (λ (m : Slot). m.live) (slot c l.0) false v.made v.there ∙ v.live) in
          Contains-at nodes a.0 node (are_nodes.stands a.0 l.0 v.made (slice_get_within order a.0 l.0 a.1) a.1 v.there ∙ ap Some v.is_node),
    );
    links_are = λ i r j x. (λ l. (linked_at c nodes i r j x).0 (linked_live i r j x l), λ l. live_linked i r j x ((linked_at c nodes i r j x).1 l));
    in_order = in_port_order-twice nodes (links_of c places);
  }

  pub graph_sound : Sound (graph_of nodes (links_of c places))
  graph_sound = record {
    paths_rise = paths_rise;
    arguments = λ i d h.
        let w = at_place i h in
        subst HasItsArgument (sym (get_or_from_slice_get nodes i w.made.node d w.stands)) (named.arguments w.number w.made w.there);
    within = is_graph.within;
    in_order = in_port_order-twice nodes (links_of c places);
    no_cycle = no_cycle_there (graph_wiring (graph_of nodes (links_of c places))) (wiring_of c) (λ j m. StandsAt c nodes m j) (λ q p. IsPortAt c (graph_of nodes (links_of c places)) p q)
        (to_configuration c named (graph_of nodes (links_of c places)) graph_is sound.ports) ((cycles_are_found c).0 sound.no_cycle);
  }

-- the parts of the graph as the code has them
pub record AreParts (c : Configuration) (nodes : List Node) (links : List Link) : Type 0 where
  pub order : List ℕ
  pub places : List (Option ℕ)
  pub in_order : InPathOrder c order
  pub are_places : ArePlaces order (length order) places
  pub are_nodes : AreNodesOf c order (length order) nodes
  pub are_links : links ≡ links_of c places

pub parts :
    (c : Configuration) (order xs ys : List ℕ) (places zs : List (Option ℕ)) (nodes : List Node) (links : List Link) → InPathOrder c order → xs ≡ order → ArePlaces xs (length xs) places → ys ≡ order
    → AreNodesOf c ys (length ys) nodes → zs ≡ places → links ≡ links_of c zs → AreParts c nodes links
parts c order xs ys places zs nodes links in_order same are_places same' are_nodes read are_links = record {
  order = order;
  places = places;
  in_order = in_order;
  are_places = subst (λ os. ArePlaces os (length os) places) same are_places;
  are_nodes = subst (λ os. AreNodesOf c os (length os) nodes) same' are_nodes;
  are_links = are_links ∙ ap (links_of c) read;
}

module _ (c : Configuration) (sound : IsSound c) (named : AreNamed c) (nodes : List Node) (links : List Link) (p : AreParts c nodes links) where
  pub parts_rise : PathsRise nodes
  parts_rise = paths_rise c sound named p.order p.in_order p.places p.are_places nodes p.are_nodes

  pub parts_within : All (IsLinkWithin nodes) links
  parts_within = subst (All (IsLinkWithin nodes)) (sym p.are_links) (within c sound named p.order p.in_order p.places p.are_places nodes p.are_nodes)

  pub parts_apart : OneLinkAPort links
  parts_apart = subst OneLinkAPort (sym p.are_links) (one_link c sound named p.order p.in_order p.places p.are_places nodes p.are_nodes)

  pub parts_few : length (ports nodes) < 2 ^ 32
  parts_few = few_ports c sound named p.order p.in_order p.places p.are_places nodes p.are_nodes

  pub parts_are : {A : Type 0} (r : Result Graph A) → IfOk r (λ g. g ≡ graph_of nodes links) → IfOk r (λ g. IsGraphOf c g)
  parts_are (Ok g) is =
      subst (IsGraphOf c) (sym (is ∙ ap (graph_of nodes) p.are_links)) (graph_is c sound named p.order p.in_order p.places p.are_places nodes p.are_nodes)
  parts_are (Err e) is = tt

  pub parts_sound : {A : Type 0} (r : Result Graph A) → IfOk r (λ g. g ≡ graph_of nodes links) → IfOk r Sound
  parts_sound (Ok g) is =
      subst Sound (sym (is ∙ ap (graph_of nodes) p.are_links)) (graph_sound c sound named p.order p.in_order p.places p.are_places nodes p.are_nodes)
  parts_sound (Err e) is = tt

  pub parts_small : {A : Type 0} (r : Result Graph A) → IfOk r (λ g. g ≡ graph_of nodes links) → IfOk r (λ g. length g.nodes ≤ MAX_NODES)
  parts_small (Ok g) is = omega (arith, ap (λ (h : Graph). length h.nodes) is, p.are_nodes.count, p.in_order.few, sound.few_nodes)
  parts_small (Err e) is = tt

  pub parts_few_ports : {A : Type 0} (r : Result Graph A) → IfOk r (λ g. g ≡ graph_of nodes links) → IfOk r (λ g. length (ports g.nodes) ≤ MAX_PORTS)
  parts_few_ports (Ok g) is =
      omega (arith, ap (λ (h : Graph). length (ports h.nodes)) is, ports_from 0 nodes, p.are_nodes.count, p.in_order.few, sound.few_nodes)
  parts_few_ports (Err e) is = tt
