-- A graph that was found to be that of a configuration is so.
use Rattle.std.proofs.Common.{◌≡◌, ◌∙◌, ℕ, Bool, true, false, not, ◌&&◌, ◌||◌, List, [], ◌∷◌, length, Option, Some, None, refl, sym, ap, subst, arith, Contains}
use Rattle.std.specs.Prelude.{◌==◌, option_map, slice_get}
use Rattle.std.specs.Cmp.Lexicographic.{slice_cmp}
use Rattle.std.specs.List.{list_all, list_any, range_with_len}
use Rattle.std.specs.Option.{option_map_or}
use Rattle.std.specs.Ordering.{nat_cmp}
use Rattle.std.specs.declared.cmp.Ordering.{Ordering}
use Rattle.std.specs.declared.cmp.Ordering.TheVariants.{Less}
use Rattle.std.proofs.lemmas.Bool.{and_from, and_parts, both_ways, eqb-true}
use Rattle.std.proofs.lemmas.List.Kept.{AllPairs-cons}
use Rattle.std.proofs.lemmas.Option.{none-some, same_Some, slice_get_within}
use Rattle.base.proofs.ContainsLaws.{Contains-at, at_some_place, any_of}
use Rattle.base.proofs.FindLaws.{find-some}
use Rattle.base.proofs.RangeLaws.{all_in_range, any_in_range}
use Rattle.config_graph.specs.Cycles.{IsLinked}
use Rattle.config_graph.specs.Graph.{Graph, PathsRise, begins_at, in_port_order, link_at, target_of}
use Rattle.config_graph.specs.GraphBy.{AreLinkedAt}
use Rattle.config_graph.specs.declared.node.Link.{Link}
use Rattle.config_graph.specs.declared.node.Node.{Node}
use Rattle.config_graph.specs.declared.node.Target.{Target}
use Rattle.config_graph.proofs.SameLaws.{link_decides, node_decides}
use Rattle.quiesce_core.specs.Live.{AreLinked, IsGraphOf, IsLiveAt, IsLiveNode}
use Rattle.quiesce_core.specs.State.{Configuration, gate, owner, slot, target}
use Rattle.quiesce_core.specs.declared.state.Slot.{Slot}
use Rattle.quiesce_core.proofs.ConfigurationLaws.{linked_made}
use Rattle.change_spec.specs.Planning.{are_one, is_node}
use Rattle.change_spec.specs.Standing.{are_links, are_links_listed, comes_before, has_link, is_graph_of, is_in_graph, is_less, is_link_listed, is_linked_somewhere, is_listed, is_live_as, is_somewhere, is_target, leads_so, paths_rise, stands}
use Rattle.change_spec.proofs.Checking.{all_by}
use Rattle.base.proofs.ListLaws.{all_have}

less : (o : Ordering) → is_less o ≡ true → o ≡ Less
less Less h = refl
less _ h = absurd (both_ways false refl h)

pub rise : (nodes : List Node) → paths_rise nodes ≡ true → PathsRise nodes
rise [] h = λ i j d k l. absurd (omega arith)
rise (n ∷ nodes) h =
    let R = λ (m k : Node). slice_cmp nat_cmp m.path k.path ≡ Less in
    let w = and_parts (list_all (comes_before n) nodes) (paths_rise nodes) h in
    AllPairs-cons R n nodes (all_by (R n) (comes_before n) (λ k e. less (slice_cmp nat_cmp n.path k.path) e) nodes w.0) (rise nodes w.1)

pub links_are_one : (ks ls : List Link) → are_links ks ls ≡ true → ks ≡ ls
links_are_one [] [] h = refl
links_are_one [] (l ∷ ls) h = absurd (both_ways false refl h)
links_are_one (k ∷ ks) [] h = absurd (both_ways false refl h)
links_are_one (k ∷ ks) (l ∷ ls) h =
    let w = and_parts _ (are_links ks ls) h in ap (λ x. x ∷ ks) ((link_decides k l).0 w.0) ∙ ap (λ xs. l ∷ xs) (links_are_one ks ls w.1)

-- what is live in a slot, and stands there of the graph

live_as : (m : Slot) (o : Option Node) (n : Node) → o ≡ Some n → is_live_as o m ≡ true → (m.live ≡ true) × (m.node ≡ n)
live_as m o n is h =
    let w = and_parts m.live (are_one (Some m.node) o) h in (w.0, (node_decides m.node n).0 (sym (ap (are_one (Some m.node)) is) ∙ w.1))

as_live : (m : Slot) (o : Option Node) (n : Node) → o ≡ Some n → m.live ≡ true → m.node ≡ n → is_live_as o m ≡ true
as_live m o n is live same = and_from m.live (are_one (Some m.node) o) live (ap (are_one (Some m.node)) is ∙ (node_decides m.node n).1 same)

listed_there : (m : Slot) (o : Option Node) → is_live_as o m ≡ true → (n : Node) × (o ≡ Some n)
listed_there m (Some n) h = (n, refl)
listed_there m None h = absurd (both_ways false refl (and_parts m.live false h).1)

module _ (c : Configuration) (g : Graph) where
  -- a node of the graph stands live in a slot
  record Stands (n i : ℕ) : Type 0 where
    node : Node
    there : slice_get g.nodes i ≡ Some node
    live : IsLiveAt c n node

  stands_if : (n i : ℕ) → stands c g n i ≡ true → Stands n i
  stands_if n i h = by (slot c n) refl h
    where
      by : (o : Option Slot) → slot c n ≡ o → option_map_or (is_live_as (slice_get g.nodes i)) o false ≡ true → Stands n i
      by None e f = absurd (both_ways false refl f)
      by (Some m) e f =
          let w = listed_there m (slice_get g.nodes i) f in
          let v = live_as m (slice_get g.nodes i) w.0 w.1 f in
          record { node = w.0; there = w.1; live = record { made = m; there = e; live = v.0; is_node = v.1 } }

  if_stands : (n i : ℕ) (node : Node) → slice_get g.nodes i ≡ Some node → IsLiveAt c n node → stands c g n i ≡ true
  if_stands n i node there w =
      ap (λ o. option_map_or (is_live_as (slice_get g.nodes i)) o false) w.there ∙ as_live w.made (slice_get g.nodes i) node there w.live w.is_node

  -- a link of the graph is one of the configuration
  linked_if : (l : Link) (p : ℕ) → has_link c g l p ≡ true → AreLinkedAt (AreLinked c) g.nodes l.from l.require l.to l.provide
  linked_if l p h =
      let first = and_parts ((gate c p).require == l.require) _ h in
      let second = and_parts (stands c g (owner c p) l.from) _ first.1 in
      by (eqb-true (gate c p).require l.require first.0) (stands_if (owner c p) l.from second.0) (target c p) refl second.1
    where
      by : (gate c p).require ≡ l.require → Stands (owner c p) l.from → (o : Option Target) → target c p ≡ o → option_map_or (leads_so c g l.to l.provide) o false ≡ true
          → AreLinkedAt (AreLinked c) g.nodes l.from l.require l.to l.provide
      by require from None e f = absurd (both_ways false refl f)
      by require from (Some t) e f =
          let w = and_parts (t.provide == l.provide) (stands c g t.node l.to) f in
          let to = stands_if t.node l.to w.1 in
          let provide : t.provide ≡ l.provide = eqb-true t.provide l.provide w.0 in
          record {
            from = from.node;
            to = to.node;
            from_there = from.there;
            to_there = to.there;
            linked = record {
              port = p;
              slot_to = t.node;
              leads = e ∙ ap (λ x. Some (record { node = t.node; provide = x })) provide;
              requirement = require;
              from_there = from.live;
              to_there = to.live;
            };
          }

  is_target_then : (o : Option Target) (j x : ℕ) → is_target j x o ≡ true → o ≡ Some (record { node = j; provide = x })
  is_target_then (Some t) j x h =
      let w = and_parts (t.node == j) (t.provide == x) h in
      ap (λ n. Some (record { node = n; provide = t.provide })) (eqb-true t.node j w.0) ∙ ap (λ y. Some (record { node = j; provide = y })) (eqb-true t.provide x w.1)
  is_target_then None j x h = absurd (both_ways false refl h)

  then_so : (a b : Bool) → (not a || b) ≡ true → a ≡ true → b ≡ true
  then_so true b h e = h
  then_so false b h e = absurd (both_ways false refl e)

  pub graph_by : is_graph_of c g ≡ true → IsGraphOf c g
  graph_by h = record {
    paths_rise = rise g.nodes first.0;
    nodes_are = λ node. (
      λ there.
          let w = any_of (is_live_as (Some node)) c.slots (all_have (is_somewhere c) g.nodes third.0 node there) in
          let at = at_some_place c.slots w.0 w.1 in
          let v = live_as w.0 (Some node) node refl w.2 in
          (at.0, record { made = w.0; there = at.1; live = v.0; is_node = v.1 }),
      λ (w : IsLiveNode c node).
          let m = w.1.made in
          let e = then_so m.live (list_any (is_node m.node) g.nodes) (all_have (is_listed g) c.slots fourth.0 m (Contains-at c.slots w.0 m w.1.there)) w.1.live in
          let v = any_of (is_node m.node) g.nodes e in
          subst (Contains g.nodes) (sym ((node_decides m.node v.0).0 v.2) ∙ w.1.is_node) v.1,
    );
    links_are = λ i r j x. (λ linked. has i r j x linked, λ w. had i r j x w);
    in_order = links_are_one (in_port_order g.nodes g.links) g.links second.0;
  }
    where
      first : (paths_rise g.nodes ≡ true) × ((are_links (in_port_order g.nodes g.links) g.links && (list_all (is_somewhere c) g.nodes && (list_all (is_listed g) c.slots && (list_all (is_linked_somewhere c g) g.links && list_all (are_links_listed c g) (range_with_len 0 (length c.gates)))))) ≡ true)
      first = and_parts _ _ h

      second : (are_links (in_port_order g.nodes g.links) g.links ≡ true) × ((list_all (is_somewhere c) g.nodes && (list_all (is_listed g) c.slots && (list_all (is_linked_somewhere c g) g.links && list_all (are_links_listed c g) (range_with_len 0 (length c.gates))))) ≡ true)
      second = and_parts _ _ (and_parts (paths_rise g.nodes) _ h).1

      third : (list_all (is_somewhere c) g.nodes ≡ true) × ((list_all (is_listed g) c.slots && (list_all (is_linked_somewhere c g) g.links && list_all (are_links_listed c g) (range_with_len 0 (length c.gates)))) ≡ true)
      third = and_parts _ _ (and_parts (are_links (in_port_order g.nodes g.links) g.links) _ (and_parts (paths_rise g.nodes) _ h).1).1

      fourth : (list_all (is_listed g) c.slots ≡ true) × ((list_all (is_linked_somewhere c g) g.links && list_all (are_links_listed c g) (range_with_len 0 (length c.gates))) ≡ true)
      fourth = and_parts _ _ (and_parts (list_all (is_somewhere c) g.nodes) _ (and_parts (are_links (in_port_order g.nodes g.links) g.links) _ (and_parts (paths_rise g.nodes) _ h).1).1).1

      fifth : (list_all (is_linked_somewhere c g) g.links ≡ true) × (list_all (are_links_listed c g) (range_with_len 0 (length c.gates)) ≡ true)
      fifth = and_parts _ _ (and_parts (list_all (is_listed g) c.slots) _ (and_parts (list_all (is_somewhere c) g.nodes) _ (and_parts (are_links (in_port_order g.nodes g.links) g.links) _ (and_parts (paths_rise g.nodes) _ h).1).1).1).1

      has : (i r j x : ℕ) → IsLinked g i r j x → AreLinkedAt (AreLinked c) g.nodes i r j x
      has i r j x linked = by (link_at g.links i r) refl linked
        where
          by : (o : Option Link) → link_at g.links i r ≡ o → option_map {U = Target} (λ (l : Link). record { node = l.to; provide = l.provide }) o ≡ Some (record { node = j; provide = x })
              → AreLinkedAt (AreLinked c) g.nodes i r j x
          by None e f = absurd (none-some _ f)
          by (Some l) e f =
              let w = find-some (begins_at i r) g.links l e in
              let both = and_parts (l.from == i) (l.require == r) w.1 in
              let there : Target = record { node = l.to; provide = l.provide } in
              let wanted : Target = record { node = j; provide = x } in
              let t : there ≡ wanted = same_Some there wanted f in
              let p = any_in_range (has_link c g l) 0 (length c.gates) (all_have (is_linked_somewhere c g) g.links fifth.0 l w.0) in
              let found = linked_if l p.at p.passes in
              subst (λ k. AreLinkedAt (AreLinked c) g.nodes i r j k) (ap (λ (u : Target). u.provide) t)
              (subst (λ k. AreLinkedAt (AreLinked c) g.nodes i r k l.provide) (ap (λ (u : Target). u.node) t)
              (subst (λ k. AreLinkedAt (AreLinked c) g.nodes i k l.to l.provide) (eqb-true l.require r both.1)
              (subst (λ k. AreLinkedAt (AreLinked c) g.nodes k l.require l.to l.provide) (eqb-true l.from i both.0) found)))

      had : (i r j x : ℕ) → AreLinkedAt (AreLinked c) g.nodes i r j x → IsLinked g i r j x
      had i r j x w =
          let a = w.linked in
          let p = a.port in
          let t : Target = record { node = a.slot_to; provide = x } in
          let low = linked_made c p t a.leads in
          let i_low = slice_get_within g.nodes i w.from w.from_there in
          let j_low = slice_get_within g.nodes j w.to w.to_there in
          let all = all_in_range (are_links_listed c g) 0 (length c.gates) p fifth.1 (omega arith) (omega (arith, low)) in
          let of_i = all_in_range (λ k. list_all (is_link_listed c g p k) (range_with_len 0 (length g.nodes))) 0 (length g.nodes) i all (omega arith) (omega (arith, i_low)) in
          let of_j = all_in_range (is_link_listed c g p i) 0 (length g.nodes) j of_i (omega arith) (omega (arith, j_low)) in
          let from = then_so (stands c g (owner c p) i) _ of_j (if_stands (owner c p) i w.from w.from_there a.from_there) in
          let to : is_in_graph c g p i j t ≡ true = sym (ap (λ o. option_map_or (is_in_graph c g p i j) o true) a.leads) ∙ from in
          let last = then_so (stands c g a.slot_to j) _ to (if_stands a.slot_to j w.to w.to_there a.to_there) in
          ap (λ q. target_of g.links i q) (sym a.requirement) ∙ is_target_then (target_of g.links i (gate c p).require) j x last
