-- There is one graph of some nodes and their links. A public clause can't range over the sets of nodes and links, so that stands here for
-- the laws `one_graph` of the crates above.
use Rattle.std.proofs.Common.{◌≡◌, ◌∙◌, ℕ, List, Option, Some, None, refl, ap, sym, subst}
use Rattle.std.specs.Prelude.{◌↔◌, All, Contains, filter_map, option_map}
use Rattle.std.specs.Ordering.{nat_cmp}
use Rattle.std.specs.Cmp.Lexicographic.{slice_cmp}
use Rattle.std.specs.declared.cmp.Ordering.TheVariants.{Less}
use Rattle.std.proofs.lemmas.Option.{same_Some}
use Rattle.std.proofs.lemmas.List.Elements.{All-contains}
use Rattle.config_graph.specs.declared.node.Node.{Node}
use Rattle.config_graph.specs.declared.node.Port.{Port}
use Rattle.config_graph.specs.declared.node.Link.{Link}
use Rattle.config_graph.specs.declared.node.Target.{Target}
use Rattle.config_graph.specs.Cycles.{IsLinked}
use Rattle.config_graph.specs.Graph.{Graph, begins_at, in_port_order, link_at, ports}
use Rattle.config_graph.specs.GraphBy.{IsGraphBy, AreLinkedAt}
use Rattle.config_graph.proofs.LinkLaws.{begins_there}
use Rattle.base.proofs.OrderedLaws.{one_order}
use Rattle.config_graph.proofs.PathLaws.{paths_apart}
use Rattle.base.proofs.FindLaws.{Contains-find, find_passes}
use Rattle.base.proofs.MapLaws.{All-filter_map}

-- where a link ends
abbrev end_of : Link → Target
end_of l = record { node = l.to; provide = l.provide }

-- where a port is linked alike, its link is the same
module _ (ls ks : List Link) (i r : ℕ) where
  same_link :
      ((j x : ℕ) → option_map end_of (link_at ls i r) ≡ Some (record { node = j; provide = x }) → option_map end_of (link_at ks i r) ≡ Some (record { node = j; provide = x }))
      → (l : Link) → link_at ls i r ≡ Some l → link_at ks i r ≡ Some l
  same_link alike l at = by (link_at ks i r) refl (alike l.to l.provide (ap (λ o. option_map end_of o) at))
    where
      begun : (l.from ≡ i) × (l.require ≡ r)
      begun = begins_there i r l (find_passes (begins_at i r) ls l at)

      by : (o : Option Link) → link_at ks i r ≡ o → option_map end_of o ≡ Some (end_of l) → o ≡ Some l
      by None there e = absurd (cc)
      by (Some k) there e =
          let other = begins_there i r k (find_passes (begins_at i r) ks k there) in
          let ends = same_Some (end_of k) (end_of l) e in
          let from : k.from ≡ l.from = other.0 ∙ sym begun.0 in
          let require : k.require ≡ l.require = other.1 ∙ sym begun.1 in
          λ n. Some (record { from = from n; require = require n; to = (ends n).node; provide = (ends n).provide })

same_links_at :
    (ls ks : List Link) (i r : ℕ)
    → ((j x : ℕ) → option_map end_of (link_at ls i r) ≡ Some (record { node = j; provide = x }) → option_map end_of (link_at ks i r) ≡ Some (record { node = j; provide = x }))
    → ((j x : ℕ) → option_map end_of (link_at ks i r) ≡ Some (record { node = j; provide = x }) → option_map end_of (link_at ls i r) ≡ Some (record { node = j; provide = x }))
    → link_at ls i r ≡ link_at ks i r
same_links_at ls ks i r to from = by (link_at ls i r) (link_at ks i r) refl refl
  where
    by : (o q : Option Link) → link_at ls i r ≡ o → link_at ks i r ≡ q → o ≡ q
    by None None at at' = refl
    by (Some l) q at at' = sym (same_link ls ks i r to l at) ∙ at'
    by None (Some k) at at' = sym at ∙ same_link ks ls i r from k at'

-- graphs with the same nodes, whose ports are linked alike
pub same_graph : (g h : Graph) → in_port_order g.nodes g.links ≡ g.links → in_port_order h.nodes h.links ≡ h.links → g.nodes ≡ h.nodes
    → ((i require j provide : ℕ) → IsLinked g i require j provide ↔ IsLinked h i require j provide) → g ≡ h
same_graph g h in_order in_order' nodes alike = λ n. record { nodes = nodes n; links = links n }
  where
    same_at : (p : Port) → link_at g.links p.node p.require ≡ link_at h.links p.node p.require
    same_at p = same_links_at g.links h.links p.node p.require (λ j x. (alike p.node p.require j x).0) (λ j x. (alike p.node p.require j x).1)

    links : g.links ≡ h.links
    links =
        sym in_order ∙ ap (λ ns. in_port_order ns g.links) nodes ∙ (λ n. filter_map (λ p. same_at p n) (ports h.nodes)) ∙ in_order'

module _ (IsNode : Node → Type 0) (Linked : Node → ℕ → Node → ℕ → Type 0) where
  pub one_graph : (g h : Graph) → IsGraphBy IsNode Linked g → IsGraphBy IsNode Linked h → g ≡ h
  one_graph g h a b = same_graph g h a.in_order b.in_order nodes alike
    where
      nodes : g.nodes ≡ h.nodes
      nodes =
          one_order (λ (m n : Node). slice_cmp nat_cmp m.path n.path ≡ Less) paths_apart g.nodes h.nodes a.paths_rise b.paths_rise
          (λ n held. (b.nodes_are n).1 ((a.nodes_are n).0 held)) (λ n held. (a.nodes_are n).1 ((b.nodes_are n).0 held))

      alike : (i require j provide : ℕ) → IsLinked g i require j provide ↔ IsLinked h i require j provide
      alike i r j x = (
        λ is. (b.links_are i r j x).1 (subst (λ ns. AreLinkedAt Linked ns i r j x) nodes ((a.links_are i r j x).0 is)),
        λ is. (a.links_are i r j x).1 (subst (λ ns. AreLinkedAt Linked ns i r j x) (sym nodes) ((b.links_are i r j x).0 is)),
      )

-- ---- links that are in a list and links of ports

-- in a list that has its own order each link is that of its port
pub own_link : (g : Graph) → in_port_order g.nodes g.links ≡ g.links → (l : Link) → Contains g.links l → link_at g.links l.from l.require ≡ Some l
own_link g in_order l held =
    All-contains (λ k. link_at g.links k.from k.require ≡ Some k) g.links l
    (subst (All (λ k. link_at g.links k.from k.require ≡ Some k)) in_order
    (All-filter_map (λ p. link_at g.links p.node p.require) (λ k. link_at g.links k.from k.require ≡ Some k) (ports g.nodes) (λ q p k at found.
    let begun = begins_there p.node p.require k (find_passes (begins_at p.node p.require) g.links k found) in
    (λ n. link_at g.links (begun.0 n) (begun.1 n)) ∙ found))) held

-- so a port is linked exactly where its link is in the list
pub linked_if_listed : (g : Graph) → in_port_order g.nodes g.links ≡ g.links → (i r j x : ℕ)
    → IsLinked g i r j x ↔ Contains g.links (record { from = i; require = r; to = j; provide = x })
linked_if_listed g in_order i r j x = (by (link_at g.links i r) refl, λ held. ap (option_map end_of) (own_link g in_order (record { from = i; require = r; to = j; provide = x }) held))
  where
    by : (o : Option Link) → link_at g.links i r ≡ o → option_map end_of (link_at g.links i r) ≡ Some (record { node = j; provide = x })
        → Contains g.links (record { from = i; require = r; to = j; provide = x })
    by None at e = let none_ = sym (ap (option_map end_of) at) ∙ e in absurd (cc)
    by (Some l) at e =
        let begun = begins_there i r l (find_passes (begins_at i r) g.links l at) in
        let ends : end_of l ≡ record { node = j; provide = x } = same_Some (end_of l) (record { node = j; provide = x }) (sym (ap (option_map end_of) at) ∙ e) in
        subst (Contains g.links) (λ n. record { from = begun.0 n; require = begun.1 n; to = (ends n).node; provide = (ends n).provide })
        (Contains-find (begins_at i r) g.links l at)
