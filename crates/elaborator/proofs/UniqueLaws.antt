-- The graph of an elaboration and its list of links.
use Rattle.std.proofs.Common.{◌≡◌, ◌∙◌, ℕ, ◌<◌, Bool, true, false, ◌&&◌, eqb, List, Option, Some, None, get_or, refl, ap, sym, subst, inl, inr, arith}
use Rattle.std.specs.Prelude.{◌↔◌}
use Rattle.std.specs.List.{Contains, filter_map}
use Rattle.std.proofs.lemmas.Bool.{cases_lt, eqb-true, eq-eqb, false≢true, and_parts}
use Rattle.std.proofs.lemmas.List.{get_or_default}
use Rattle.std.proofs.lemmas.Option.{none-some}
use Rattle.config_graph.specs.declared.node.Node.{Node}
use Rattle.config_graph.specs.declared.node.Port.{Port}
use Rattle.config_graph.specs.declared.node.Link.{Link}
use Rattle.config_graph.specs.Graph.{Graph, OneLinkAPort, PathsRise, begins_at, link_at, ports, in_port_order, graph_of}
use Rattle.config_graph.proofs.GraphByLaws.{linked_if_listed}
use Rattle.config_graph.proofs.GraphByLaws as graph_by
use Rattle.darwin_parser.specs.Tree.{Tree}
use Rattle.elaborator.specs.Instances.{Instance}
use Rattle.elaborator.specs.Graph.{IsNode, Linked, IsLink, IsElab}
use Rattle.base.proofs.FindLaws.{find-only, find-some}

-- the link of a port is in the list, and begins there
pub link_found : (links : List Link) (i r : ℕ) (l : Link) → link_at links i r ≡ Some l → Contains links l × (l.from ≡ i) × (l.require ≡ r)
link_found links i r l found =
    let w = find-some (begins_at i r) links l found in
    let at = and_parts (eqb l.from i) (eqb l.require r) w.1 in
    (w.0, eqb-true l.from i at.0, eqb-true l.require r at.1)

both_equal : (a b c d : ℕ) → a ≡ c → b ≡ d → (eqb a c && eqb b d) ≡ true
both_equal a b c d same same' = ap (λ n. eqb n c && eqb b d) same ∙ ap (λ n. eqb c c && eqb n d) same' ∙ both (eqb c c) (eqb d d) (eq-eqb c c refl) (eq-eqb d d refl)
  where
    both : (x y : Bool) → x ≡ true → y ≡ true → (x && y) ≡ true
    both true true is is' = refl
    both true false is is' = is'
    both false y is is' = is

-- where no two links begin at one port, a link is told by its port
one_at_port : (links : List Link) → OneLinkAPort links → (k l : Link) → Contains links k → Contains links l → k.from ≡ l.from → k.require ≡ l.require → k ≡ l
one_at_port links one k l there there' from require =
    elim (cases_lt there.0 there'.0) [
      | inl below ↦ absurd (apart k l there there' below from require)
      | inr above ↦
          elim (cases_lt there'.0 there.0) [
            | inl below ↦ absurd (apart l k there' there below (sym from) (sym require))
            | inr same ↦
                let place : there.0 ≡ there'.0 = omega (arith, above, same) in
                sym there.2 ∙ ap (λ n. get_or links n k) place ∙ get_or_default links there'.0 k l there'.1 ∙ there'.2
          ]
    ]
  where
    apart : (a b : Link) (x : Contains links a) (y : Contains links b) → x.0 < y.0 → a.from ≡ b.from → a.require ≡ b.require → ⊥
    apart a b x y below from require =
        let none = one x.0 y.0 a below y.1 in
        let here : begins_at a.from a.require b ≡ false = subst (λ m. begins_at m.from m.require b ≡ false) x.2 (subst (λ m. begins_at (get_or links x.0 a).from (get_or links x.0 a).require m ≡ false) (get_or_default links y.0 a b y.1 ∙ y.2) none) in
        false≢true (sym here ∙ both_equal b.from b.require a.from a.require (sym from) (sym require))

-- the links in the order of their ports are in their own order
pub kept_in_order :
    (nodes : List Node) (links : List Link) (g : Graph) → OneLinkAPort links → g ≡ graph_of nodes links
    → ((l : Link) → (Contains g.links l → Contains links l) × (Contains links l → Contains g.links l)) → in_port_order g.nodes g.links ≡ g.links
kept_in_order nodes links g one is all =
    ap (λ (h : Graph). in_port_order h.nodes g.links) is
    ∙ (λ i. filter_map (λ p. same_at p i) (ports nodes))
    ∙ sym (ap (λ (h : Graph). h.links) is)
  where
    by : (p : Port) (o : Option Link) → link_at links p.node p.require ≡ o → link_at g.links p.node p.require ≡ o
    by p (Some l) at =
        let w = link_found links p.node p.require l at in
        find-only (begins_at p.node p.require) g.links l ((all l).1 w.0) (both_equal l.from l.require p.node p.require w.1 w.2) (λ m there begins.
        let b = and_parts (eqb m.from p.node) (eqb m.require p.require) begins in
        one_at_port links one m l ((all m).0 there) w.0 (eqb-true m.from p.node b.0 ∙ sym w.1) (eqb-true m.require p.require b.1 ∙ sym w.2))
    by p None at = by_found (link_at g.links p.node p.require) refl
      where
        by_found : (o : Option Link) → link_at g.links p.node p.require ≡ o → link_at g.links p.node p.require ≡ None
        by_found None at' = at'
        by_found (Some l) at' =
            let w = link_found g.links p.node p.require l at' in
            absurd (none-some l (sym at ∙ find-only (begins_at p.node p.require) links l ((all l).0 w.0) (both_equal l.from l.require p.node p.require w.1 w.2) (λ m there begins.
            let b = and_parts (eqb m.from p.node) (eqb m.require p.require) begins in
            one_at_port links one m l there ((all l).0 w.0) (eqb-true m.from p.node b.0 ∙ sym w.1) (eqb-true m.require p.require b.1 ∙ sym w.2))))

    same_at : (p : Port) → link_at g.links p.node p.require ≡ link_at links p.node p.require
    same_at p = by p (link_at links p.node p.require) refl

-- ---- the graph

-- the links of a graph are those of its list
pub links_listed : (tree : Tree) (top : Instance) (g : Graph) → IsElab tree top g → (l : Link) → Contains g.links l ↔ IsLink tree top g.nodes l
links_listed tree top g is l =
    let here = linked_if_listed g is.in_order l.from l.require l.to l.provide in (
      λ held. (is.links_are l.from l.require l.to l.provide).0 (here.1 held),
      λ linked. here.0 ((is.links_are l.from l.require l.to l.provide).1 linked),
    )

-- and where those of its list are the links, it is the graph
pub elab_by_list :
    (tree : Tree) (top : Instance) (g : Graph) → PathsRise g.nodes → ((n : Node) → Contains g.nodes n ↔ IsNode tree top n)
    → ((l : Link) → Contains g.links l ↔ IsLink tree top g.nodes l) → in_port_order g.nodes g.links ≡ g.links → IsElab tree top g
elab_by_list tree top g rise nodes links in_order =
    record {
      paths_rise = rise;
      nodes_are = nodes;
      links_are = λ i r j x.
          let here = linked_if_listed g in_order i r j x in
          let l : Link = record { from = i; require = r; to = j; provide = x } in
          (λ linked. (links l).0 (here.0 linked), λ are. here.1 ((links l).1 are));
      in_order = in_order;
    }

-- there is one graph
pub one_graph : (tree : Tree) (top : Instance) (g h : Graph) → IsElab tree top g → IsElab tree top h → g ≡ h
one_graph tree top g h a b = graph_by.one_graph (IsNode tree top) (Linked tree top) g h a b
