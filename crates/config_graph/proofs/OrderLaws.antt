-- Lemmas on the links in the order of their ports.
use Rattle.std.proofs.Common.{◌≡◌, ◌<◌, ◌^◌, ℕ, zero, suc, Bool, true, false, cond, List, [], ◌∷◌, length, map, Option, Some, None, slice_get, option_map, refl, sym, ◌∙◌, ap, subst, arith, find, filter_map, All}
use Rattle.std.specs.List.{cons_option}
use Rattle.std.proofs.lemmas.Bool.{true≢false}
use Rattle.std.proofs.lemmas.List.Elements.{All-cons}
use Rattle.std.proofs.lemmas.List.Kept.{AllPairs-cons}
use Rattle.config_graph.specs.Graph.{begins_at, link_at, target_of, in_port_order, ports, Graph, IsGraph, IsLinkWithin, OneLinkAPort, PathsRise, graph_of, port_number}
use Rattle.config_graph.specs.Indexes.{targets, link_to, links_in}
use Rattle.config_graph.specs.declared.node.Node.{Node}
use Rattle.config_graph.specs.declared.node.Port.{Port}
use Rattle.config_graph.specs.declared.node.Target.{Target}
use Rattle.config_graph.specs.declared.node.Link.{Link}
use Rattle.config_graph.proofs.LinkLaws.{begins_there, begins_here, port_number-place}
use Rattle.base.proofs.FindLaws.{Contains-find, find_passes}
use Rattle.base.proofs.MapLaws.{All-filter_map, filter_map_same, map_same}

-- the links that a table of targets makes are the links from which it was made
links_of_targets : (links : List Link) (ps : List Port) → links_in ps (map (λ p. target_of links p.node p.require) ps) ≡ filter_map (λ p. link_at links p.node p.require) ps
links_of_targets links [] = refl
links_of_targets links (p ∷ ps) =
    λ i. cons_option (same (link_at links p.node p.require) refl i) (links_of_targets links ps i)
  where
    same : (o : Option Link) → link_at links p.node p.require ≡ o → link_to (p, option_map (λ (l : Link). record { node = l.to; provide = l.provide }) o) ≡ o
    same None e = refl
    same (Some l) e =
        let there = begins_there p.node p.require l (find_passes (begins_at p.node p.require) links l e) in
        λ i. Some (record { from = sym there.0 i; require = sym there.1 i; to = l.to; provide = l.provide })

pub links_in-targets : (nodes : List Node) (links : List Link) → links_in (ports nodes) (targets nodes links) ≡ in_port_order nodes links
links_in-targets nodes links = links_of_targets links (ports nodes)

module _ (links : List Link) where
  abbrev ordered : List Port → List Link
  ordered ps = filter_map (λ p. link_at links p.node p.require) ps

  -- what holds of each link holds of the links in order
  pub All-ordered : (P : Link → Type 0) → All P links → (ps : List Port) → All P (ordered ps)
  All-ordered P all [] = λ k d h. absurd (omega arith)
  All-ordered P all (p ∷ ps) = by (link_at links p.node p.require) refl (All-ordered P all ps)
    where
      by : (o : Option Link) → link_at links p.node p.require ≡ o → All P (ordered ps) → All P (cons_option o (ordered ps))
      by None e rest = rest
      by (Some l) e rest =
          let inside = Contains-find (begins_at p.node p.require) links l e in
          All-cons P l (ordered ps) (subst P inside.2 (all inside.0 l inside.1)) rest

  -- a port with no link has none among the links in order
  find-ordered_none : (i r : ℕ) → link_at links i r ≡ None → (ps : List Port) → find (begins_at i r) (ordered ps) ≡ None
  find-ordered_none i r none [] = refl
  find-ordered_none i r none (p ∷ ps) =
      by (link_at links p.node p.require) refl (find-ordered_none i r none ps)
    where
      by : (o : Option Link) → link_at links p.node p.require ≡ o → find (begins_at i r) (ordered ps) ≡ None → find (begins_at i r) (cons_option o (ordered ps)) ≡ None
      by None e rest = rest
      by (Some l) e rest = at (begins_at i r l) refl
        where
          at : (b : Bool) → begins_at i r l ≡ b → cond b (Some l) (find (begins_at i r) (ordered ps)) ≡ None
          at false f = rest
          at true f =
              let here = begins_there i r l f in
              let there = begins_there p.node p.require l (find_passes (begins_at p.node p.require) links l e) in
              let found : link_at links i r ≡ Some l = (λ j. link_at links ((sym here.0 ∙ there.0) j) ((sym here.1 ∙ there.1) j)) ∙ e in
              cc

  -- a port that stands in the list has the same link among the links in order
  pub find-ordered : (ps : List Port) (q : ℕ) (p : Port) → slice_get ps q ≡ Some p → find (begins_at p.node p.require) (ordered ps) ≡ link_at links p.node p.require
  find-ordered [] q p h = cc
  find-ordered (x ∷ ps) q p h = by (link_at links x.node x.require) refl q h (λ i. find-ordered ps i p)
    where
      by : (o : Option Link) → link_at links x.node x.require ≡ o → (q : ℕ) → slice_get (x ∷ ps) q ≡ Some p → ((i : ℕ) → slice_get ps i ≡ Some p → find (begins_at p.node p.require) (ordered ps) ≡ link_at links p.node p.require) → find (begins_at p.node p.require) (cons_option o (ordered ps)) ≡ link_at links p.node p.require
      by None e zero h rest =
          let same : x ≡ p = cc in
          let none : link_at links p.node p.require ≡ None = (λ i. link_at links (sym same i).node (sym same i).require) ∙ e in
          find-ordered_none p.node p.require none ps ∙ sym none
      by None e (suc q) h rest = rest q h
      by (Some l) e q h rest = at (begins_at p.node p.require l) refl q h
        where
          there : (l.from ≡ x.node) × (l.require ≡ x.require)
          there = begins_there x.node x.require l (find_passes (begins_at x.node x.require) links l e)

          at : (b : Bool) → begins_at p.node p.require l ≡ b → (q : ℕ) → slice_get (x ∷ ps) q ≡ Some p → cond b (Some l) (find (begins_at p.node p.require) (ordered ps)) ≡ link_at links p.node p.require
          at true f q h =
              let here = begins_there p.node p.require l f in
              sym ((λ j. link_at links ((sym here.0 ∙ there.0) j) ((sym here.1 ∙ there.1) j)) ∙ e)
          at false f zero h =
              let same : x ≡ p = cc in
              let begins = begins_here p.node p.require l (there.0 ∙ ap (λ y. y.node) same) (there.1 ∙ ap (λ y. y.require) same) in
              absurd (true≢false (sym begins ∙ f))
          at false f (suc q) h = rest q h

-- ordering the links changes no port's link
pub targets-ordered : (nodes : List Node) (links : List Link) → targets nodes (in_port_order nodes links) ≡ targets nodes links
targets-ordered nodes links =
    let to : Link → Target = λ l. record { node = l.to; provide = l.provide } in
    map_same (λ p. target_of (in_port_order nodes links) p.node p.require) (λ p. target_of links p.node p.require) (ports nodes) (λ q p h. ap (option_map to) (find-ordered links (ports nodes) q p h))

pub in_port_order-twice : (nodes : List Node) (links : List Link) → in_port_order nodes (in_port_order nodes links) ≡ in_port_order nodes links
in_port_order-twice nodes links =
    filter_map_same (λ p. link_at (in_port_order nodes links) p.node p.require) (λ p. link_at links p.node p.require) (ports nodes) (λ q p h. find-ordered links (ports nodes) q p h)

-- what `Graph::build` makes is a graph
pub IsGraph-graph_of : (nodes : List Node) (links : List Link) → PathsRise nodes → All (IsLinkWithin nodes) links → length nodes < 2 ^ 32 → length (ports nodes) < 2 ^ 32 → IsGraph (graph_of nodes links)
IsGraph-graph_of nodes links rise within few_nodes few_ports = record {
  paths_rise = rise;
  within = All-ordered links (IsLinkWithin nodes) within (ports nodes);
  in_order = in_port_order-twice nodes links;
  few_nodes = few_nodes;
  few_ports = few_ports;
}

-- where no port stands twice, no two of the links in order begin at one port
one_link-ordered : (links : List Link) (ps : List Port) → ((j k : ℕ) (p q : Port) → slice_get ps j ≡ Some p → slice_get ps k ≡ Some q → p.node ≡ q.node → p.require ≡ q.require → j ≡ k) → OneLinkAPort (ordered links ps)
one_link-ordered links [] apart = λ i j d low high. absurd (omega arith)
one_link-ordered links (p ∷ ps) apart =
    by (link_at links p.node p.require) refl (one_link-ordered links ps (λ j k a b e f s t. suc_same (apart (suc j) (suc k) a b e f s t)))
  where
    suc_same : {j k : ℕ} → suc j ≡ suc k → j ≡ k
    suc_same e = omega arith

    by : (o : Option Link) → link_at links p.node p.require ≡ o → OneLinkAPort (ordered links ps) → OneLinkAPort (cons_option o (ordered links ps))
    by None e rest = rest
    by (Some l) e rest =
        AllPairs-cons (λ k m. begins_at k.from k.require m ≡ false) l (ordered links ps) (All-filter_map (λ q. link_at links q.node q.require) (λ m. begins_at l.from l.require m ≡ false) ps elsewhere) rest
      where
        elsewhere : (k : ℕ) (q : Port) (m : Link) → slice_get ps k ≡ Some q → link_at links q.node q.require ≡ Some m → begins_at l.from l.require m ≡ false
        elsewhere k q m at_k found = at (begins_at l.from l.require m) refl
          where
            at : (b : Bool) → begins_at l.from l.require m ≡ b → b ≡ false
            at false f = refl
            at true f =
                let l_there = begins_there p.node p.require l (find_passes (begins_at p.node p.require) links l e) in
                let m_there = begins_there q.node q.require m (find_passes (begins_at q.node q.require) links m found) in
                let same = begins_there l.from l.require m f in
                let index : 0 ≡ suc k = apart 0 (suc k) p q refl at_k (sym l_there.0 ∙ sym same.0 ∙ m_there.0) (sym l_there.1 ∙ sym same.1 ∙ m_there.1) in
                absurd (omega (arith, index))

pub one_link-in_order : (g : Graph) → IsGraph g → OneLinkAPort g.links
one_link-in_order g graph =
    let number : (q : ℕ) (p : Port) → slice_get (ports g.nodes) q ≡ Some p → q ≡ port_number g.nodes p.node p.require = port_number-place g.nodes in
    subst OneLinkAPort graph.in_order (one_link-ordered g.links (ports g.nodes) (λ j k p q e f s t. number j p e ∙ (λ i. port_number g.nodes (s i) (t i)) ∙ sym (number k q f)))
