-- Lemmas on what one graph has and another hasn't.
use Rattle.std.proofs.Common.{◌≡◌, ◌↔◌, ℕ, ◌<◌, List, length, get_or, Option, Some, None, slice_get, option_map, refl, sym, ◌∙◌, ap, subst, inl, inr, arith, Contains}
use Rattle.std.specs.Option.{option_map_or}
use Rattle.std.proofs.lemmas.List.Elements.{All-contains}
use Rattle.config_graph.specs.Graph.{Graph, IsGraph, IsLinkWithin, begins_at, link_at, requires_at, requires_of, target_of}
use Rattle.config_graph.specs.declared.node.Link.{Link}
use Rattle.config_graph.specs.declared.node.Node.{Node}
use Rattle.config_graph.specs.declared.node.Target.{Target}
use Rattle.config_graph.proofs.IncomingLaws.{link_at-own}
use Rattle.config_graph.proofs.LinkLaws.{begins_there}
use Rattle.config_graph.proofs.NumberingLaws.{within_list}
use Rattle.config_graph.proofs.OrderLaws.{one_link-in_order}
use Rattle.change_plan.specs.Differences.{IsGone, IsKeptLink, IsTwin}
use Rattle.change_plan.specs.Touched.{HasNewTarget, IsTouched, SameTarget}
use Rattle.change_plan.proofs.NodeLaws.{one_path}
use Rattle.base.proofs.ContainsLaws.{Contains-at}
use Rattle.base.proofs.FindLaws.{Contains-find, find_passes}
use Rattle.base.proofs.PlaceLaws.{read_at}

-- one place has one node
pub one_node : (nodes : List Node) (i : ℕ) (m n : Node) → slice_get nodes i ≡ Some m → slice_get nodes i ≡ Some n → m ≡ n
one_node nodes i m n at_m at_n = let both : Some m ≡ Some n = sym at_m ∙ at_n in cc

-- the same node has the same ports
pub same_requires : (g h : Graph) (i j r : ℕ) → IsTwin g h i j → r < requires_at g.nodes i → r < requires_at h.nodes j
same_requires g h i j r twin low =
    let counts : Option Node → ℕ = λ o. option_map_or requires_of o 0 in
    let same : requires_at g.nodes i ≡ requires_at h.nodes j = ap counts (twin.here ∙ sym twin.there) in
    omega (arith, same, low)

-- what a port's link tells, and how a target tells the link
own_target : (g : Graph) → IsGraph g → (l : Link) → Contains g.links l → target_of g.links l.from l.require ≡ Some (record { node = l.to; provide = l.provide })
own_target g graph l there =
    ap (option_map {U = Target} (λ k. record { node = k.to; provide = k.provide })) (link_at-own g.links l (one_link-in_order g graph) there)

linked_by : (g : Graph) (i r : ℕ) (t : Target) → target_of g.links i r ≡ Some t → Contains g.links (record { from = i; require = r; to = t.node; provide = t.provide })
linked_by g i r t h = by (link_at g.links i r) refl h
  where
    by : (o : Option Link) → link_at g.links i r ≡ o → option_map {U = Target} (λ k. record { node = k.to; provide = k.provide }) o ≡ Some t → Contains g.links (record { from = i; require = r; to = t.node; provide = t.provide })
    by None e f = cc
    by (Some l) e f =
        let at = begins_there i r l (find_passes (begins_at i r) g.links l e) in
        let same : record { node = l.to; provide = l.provide } ≡ t = cc in
        let link : l ≡ record { from = i; require = r; to = t.node; provide = t.provide } = λ k. record { from = at.0 k; require = at.1 k; to = (same k).node; provide = (same k).provide } in
        subst (Contains g.links) link (Contains-find (begins_at i r) g.links l e)

-- the node at which a link begins is in the graph, and has the port
pub begins_within : (g : Graph) → IsGraph g → (k : Link) → Contains g.links k → k.require < requires_at g.nodes k.from
begins_within g graph k there = (All-contains (IsLinkWithin g.nodes) g.links k graph.within there).begins

pub begins_low : (g : Graph) → IsGraph g → (k : Link) → Contains g.links k → (copy : List Node) → copy ≡ g.nodes → k.from < length copy
begins_low g graph k there copy same =
    let inside = within_list requires_of g.nodes k.from k.require (begins_within g graph k there) in
    omega (arith, inside, ap length same)

-- what is read there
pub begins_read : (g : Graph) → IsGraph g → (k : Link) → Contains g.links k → (copy : List Node) → copy ≡ g.nodes → (n : Node) → n ≡ get_or copy k.from n → slice_get g.nodes k.from ≡ Some n
begins_read g graph k there copy same n n_is = read_at copy g.nodes k.from n same (begins_low g graph k there copy same) n_is

-- a link of a node that is gone is gone
pub kept_none : (g h : Graph) (k : Link) (n : Node) → slice_get g.nodes k.from ≡ Some n → (¬ Contains h.nodes n) → ¬ IsKeptLink g h k
kept_none g h k n here gone (l, l_there, same) =
    let node = one_node g.nodes k.from same.from.node n same.from.here here in
    gone (subst (Contains h.nodes) node (Contains-at h.nodes l.from same.from.node same.from.there))

-- else it is kept exactly where the port has the same target
module _ (g h : Graph) (g_graph : IsGraph g) (h_graph : IsGraph h) (k : Link) (there : Contains g.links k) (n : Node) (here : slice_get g.nodes k.from ≡ Some n) (twin : ℕ) (stays : slice_get h.nodes twin ≡ Some n) where
  mine : target_of g.links k.from k.require ≡ Some (record { node = k.to; provide = k.provide })
  mine = own_target g g_graph k there

  kept_to : (o : Option Target) → target_of h.links twin k.require ≡ o → SameTarget g h (target_of g.links k.from k.require) o → IsKeptLink g h k
  kept_to None e same = absurd (subst (λ t. SameTarget g h t None) mine same)
  kept_to (Some u) e same =
      let both = subst (λ t. SameTarget g h t (Some u)) mine same in (
        record { from = twin; require = k.require; to = u.node; provide = u.provide },
        linked_by h twin k.require u e,
        record {
          from = record { node = n; here = here; there = stays };
          require = refl;
          to = both.0;
          provide = both.1;
        },
      )

  kept_from : IsKeptLink g h k → SameTarget g h (target_of g.links k.from k.require) (target_of h.links twin k.require)
  kept_from (l, l_there, same) =
      let node = one_node g.nodes k.from same.from.node n same.from.here here in
      let place : l.from ≡ twin = one_path h.nodes h_graph.paths_rise l.from twin same.from.node n same.from.there stays (ap (λ (m : Node). m.path) node) in
      let theirs : target_of h.links twin k.require ≡ Some (record { node = l.to; provide = l.provide }) = (λ j. target_of h.links (sym place j) (same.require j)) ∙ own_target h h_graph l l_there in
      let both : SameTarget g h (Some (record { node = k.to; provide = k.provide })) (Some (record { node = l.to; provide = l.provide })) = (same.to, same.provide) in
      subst (λ t. SameTarget g h t (target_of h.links twin k.require)) (sym mine) (subst (SameTarget g h (Some (record { node = k.to; provide = k.provide }))) (sym theirs) both)

  pub kept_some : SameTarget g h (target_of g.links k.from k.require) (target_of h.links twin k.require) ↔ IsKeptLink g h k
  kept_some = (kept_to (target_of h.links twin k.require) refl, kept_from)

-- a node that isn't in the other graph is touched
pub touched_none : (g h : Graph) (i : ℕ) (n : Node) → slice_get g.nodes i ≡ Some n → (¬ Contains h.nodes n) → IsTouched g h i
touched_none g h i n here gone = inl (record { node = n; here = here; gone = gone })

-- one that is, is touched exactly where a target differs
pub touched_some : (g h : Graph) (i : ℕ) (n : Node) (twin : ℕ) → slice_get g.nodes i ≡ Some n → slice_get h.nodes twin ≡ Some n → HasNewTarget g h i ↔ IsTouched g h i
touched_some g h i n twin here there = (λ h. inr h, from)
  where
    from : IsTouched g h i → HasNewTarget g h i
    from (inr differs) = differs
    from (inl lost) =
        let node = one_node g.nodes i lost.node n lost.here here in
        absurd (lost.gone (subst (Contains h.nodes) (sym node) (Contains-at h.nodes twin n there)))

module _ (g h : Graph) (h_graph : IsGraph h) (i twin : ℕ) (stays : IsTwin g h i twin) where
  -- a target that differs
  pub new_target : (r : ℕ) → r < requires_at g.nodes i → ¬ SameTarget g h (target_of g.links i r) (target_of h.links twin r) → HasNewTarget g h i
  new_target r low differs = record { twin = twin; require = r; stays = stays; within = low; differs = differs }

  -- where no target differs there is none
  pub no_new_target : ((r : ℕ) → r < requires_at g.nodes i → SameTarget g h (target_of g.links i r) (target_of h.links twin r)) → ¬ HasNewTarget g h i
  no_new_target same other =
      let r = other.require in
      let node = one_node g.nodes i other.stays.node stays.node other.stays.here stays.here in
      let place : twin ≡ other.twin = one_path h.nodes h_graph.paths_rise twin other.twin stays.node other.stays.node stays.there other.stays.there (ap (λ (m : Node). m.path) (sym node)) in
      other.differs (subst (λ t. SameTarget g h (target_of g.links i r) (target_of h.links t r)) place (same r other.within))

pub not_gone : (g h : Graph) (i : ℕ) (n : Node) → slice_get g.nodes i ≡ Some n → (j : ℕ) → slice_get h.nodes j ≡ Some n → ¬ IsGone g h i
not_gone g h i n here j there lost =
    let node = one_node g.nodes i lost.node n lost.here here in
    lost.gone (subst (Contains h.nodes) (sym node) (Contains-at h.nodes j n there))
