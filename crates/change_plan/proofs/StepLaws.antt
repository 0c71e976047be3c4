-- What the steps of a plan take and make, each told by the two graphs. Whether a node or a link is kept can be told.
use Rattle.std.proofs.Common.{◌≡◌, ◌⊎◌, ℕ, zero, suc, Bool, true, false, eqb, List, [], ◌∷◌, length, Option, Some, None, refl, sym, ◌∙◌, ap, subst, inl, inr, arith, Contains}
use Rattle.std.specs.List.{range_with_len}
use Rattle.std.proofs.lemmas.Bool.{eq-eqb, eqb-true, false≢true}
use Rattle.std.proofs.lemmas.List.Elements.{All-contains, Contains-append_right, Contains-get_or}
use Rattle.std.proofs.lemmas.Option.{slice_get_within}
use Rattle.config_graph.specs.Graph.{Graph, IsGraph, IsLinkWithin, link_at, provides_of, requires_of, target_of}
use Rattle.config_graph.specs.contracts.node.NodePartialEq as node_eq
use Rattle.config_graph.specs.declared.node.Link.{Link}
use Rattle.config_graph.specs.declared.node.Node.{Node}
use Rattle.config_graph.specs.declared.node.Target.{Target}
use Rattle.config_graph.proofs.IncomingLaws.{link_at-own}
use Rattle.config_graph.proofs.LinkLaws.{target_within}
use Rattle.config_graph.proofs.NumberingLaws.{within_list}
use Rattle.config_graph.proofs.OrderLaws.{one_link-in_order}
use Rattle.config_graph.proofs.SameLaws.{node_decides}
use Rattle.change_plan.specs.Applying.{IsAtOneOf}
use Rattle.change_plan.specs.Differences.{GoneNodes, IsGone, IsKeptLink, IsTwin, link_port}
use Rattle.change_plan.specs.Plans.{HasStepsBetween}
use Rattle.change_plan.specs.Touched.{IsTouched, SameTarget}
use Rattle.config_graph.specs.declared.node.Port.{Port}
use Rattle.change_plan.specs.declared.plan_data.Plan.{Plan}
use Rattle.change_plan.proofs.DifferenceLemmas.{kept_none, kept_some, one_node, same_requires}
use Rattle.change_plan.proofs.SelectsLaws.{Selects-has, Selects-only, Selects-part}
use Rattle.base.proofs.ContainsLaws.{Contains-from_map, Contains-map, at_some_place}
use Rattle.base.proofs.PlaceLaws.{slice_get-there}
use Rattle.base.proofs.RangeLaws.{Contains-places}

-- whether two nodes are equal
pub same_node : (m n : Node) → (m ≡ n) ⊎ (¬ (m ≡ n))
same_node m n = by ((node_eq.TheImpl.eq-value).it m n) refl
  where
    by : (b : Bool) → (node_eq.TheImpl.eq-value).it m n ≡ b → (m ≡ n) ⊎ (¬ (m ≡ n))
    by true e = inl ((node_decides m n).0 e)
    by false e = inr (λ same. false≢true (sym e ∙ (node_decides m n).1 same))

-- whether a list has a node
pub has_node : (ns : List Node) (n : Node) → Contains ns n ⊎ (¬ Contains ns n)
has_node [] n = inr (λ there. omega (arith, there.1))
has_node (m ∷ ns) n =
    elim (same_node m n) [
      | inl same ↦ inl (subst (Contains (m ∷ ns)) same (Contains-get_or (m ∷ ns) 0 m (omega arith)))
      | inr apart ↦
          elim (has_node ns n) [
            | inl there ↦ inl (Contains-append_right (m ∷ []) ns n there)
            | inr missing ↦ inr (elsewhere m ns n apart missing)
          ]
    ]
  where
    elsewhere : (m : Node) (ns : List Node) (n : Node) → ¬ (m ≡ n) → ¬ Contains ns n → ¬ Contains (m ∷ ns) n
    elsewhere m ns n apart missing (zero, low, same) = apart same
    elsewhere m ns n apart missing (suc k, low, same) = missing (k, omega arith, same)

module _ (g h : Graph) (g_graph : IsGraph g) (h_graph : IsGraph h) where
  -- whether two ports have the same target
  pub same_target : (i r j s : ℕ) → SameTarget g h (target_of g.links i r) (target_of h.links j s) ⊎ (¬ SameTarget g h (target_of g.links i r) (target_of h.links j s))
  same_target i r j s = by (target_of g.links i r) (target_of h.links j s) refl refl
    where
      by : (t u : Option Target) → target_of g.links i r ≡ t → target_of h.links j s ≡ u → SameTarget g h t u ⊎ (¬ SameTarget g h t u)
      by None None e f = inl tt
      by None (Some u) e f = inr (λ same. same)
      by (Some t) None e f = inr (λ same. same)
      by (Some t) (Some u) e f =
          let here = slice_get-there g.nodes t.node (within_list provides_of g.nodes t.node t.provide (target_within g.nodes g.links i r t g_graph.within e)) in
          let there = slice_get-there h.nodes u.node (within_list provides_of h.nodes u.node u.provide (target_within h.nodes h.links j s u h_graph.within f)) in
          elim (same_node here.0 there.0) [
            | inl same ↦ provision (eqb t.provide u.provide) refl (record { node = here.0; here = here.1; there = there.1 ∙ ap Some (sym same) })
            | inr apart ↦ inr (λ both. apart (one_node g.nodes t.node here.0 both.0.node here.1 both.0.here ∙ one_node h.nodes u.node both.0.node there.0 both.0.there there.1))
          ]
        where
          provision : (b : Bool) → eqb t.provide u.provide ≡ b → IsTwin g h t.node u.node → SameTarget g h (Some t) (Some u) ⊎ (¬ SameTarget g h (Some t) (Some u))
          provision true same twin = inl (twin, eqb-true t.provide u.provide same)
          provision false differs twin = inr (λ both. false≢true (sym differs ∙ eq-eqb t.provide u.provide both.1))

  -- whether a link is kept
  pub kept : (k : Link) → Contains g.links k → IsKeptLink g h k ⊎ (¬ IsKeptLink g h k)
  kept k there =
      let inside = All-contains (IsLinkWithin g.nodes) g.links k g_graph.within there in
      let from = slice_get-there g.nodes k.from (within_list requires_of g.nodes k.from k.require inside.begins) in
      elim (has_node h.nodes from.0) [
        | inl found ↦
            let place = at_some_place h.nodes from.0 found in
            let exactly = kept_some g h g_graph h_graph k there from.0 from.1 place.0 place.1 in
            elim (same_target k.from k.require place.0 k.require) [
              | inl same ↦ inl (exactly.0 same)
              | inr differs ↦ inr (λ is_kept. differs (exactly.1 is_kept))
            ]
        | inr missing ↦ inr (kept_none g h k from.0 from.1 missing)
      ]

pub turned_target : (g h : Graph) (t u : Option Target) → SameTarget g h t u → SameTarget h g u t
turned_target g h None None same = tt
turned_target g h None (Some u) same = same
turned_target g h (Some t) None same = same
turned_target g h (Some t) (Some u) same = (record { node = same.0.node; here = same.0.there; there = same.0.here }, sym same.1)

pub gone_listed : (g h : Graph) (gone : List ℕ) → GoneNodes g h gone → (n : Node) → Contains g.nodes n → ¬ Contains h.nodes n → IsAtOneOf g gone n
gone_listed g h gone selected n there missing =
    let place = at_some_place g.nodes n there in
    let low = slice_get_within g.nodes place.0 n place.1 in
    (place.0, Selects-has (IsGone g h) (range_with_len 0 (length g.nodes)) gone selected place.0 (Contains-places (length g.nodes) place.0 low) (record { node = n; here = place.1; gone = missing }), place.1)

pub listed_gone : (g h : Graph) (gone : List ℕ) → GoneNodes g h gone → (n : Node) → IsAtOneOf g gone n → ¬ Contains h.nodes n
listed_gone g h gone selected n (i, there, at) =
    let lost = All-contains (IsGone g h) gone i (Selects-only (IsGone g h) (range_with_len 0 (length g.nodes)) gone selected) there in
    subst (λ m. ¬ Contains h.nodes m) (one_node g.nodes i lost.node n lost.here at) lost.gone

module _ (old new : Graph) (old_graph : IsGraph old) (new_graph : IsGraph new) (p : Plan) (plan : HasStepsBetween old new p) where
  -- a link that is gone is unlinked at its port, and no other
  pub unlinked : (k : Link) → Contains old.links k → ¬ IsKeptLink old new k → Contains p.unlink (link_port k)
  unlinked k there lost =
      let links = plan.unlink.0 in
      let listed = Selects-has (λ l. ¬ IsKeptLink old new l) old.links links plan.unlink.1 k there lost in
      subst (λ ports. Contains ports (link_port k)) (sym plan.unlink.2) (Contains-map link_port links k listed)

  pub unlinked_lost : (k : Link) → Contains old.links k → Contains p.unlink (link_port k) → ¬ IsKeptLink old new k
  unlinked_lost k there at =
      let links = plan.unlink.0 in
      let from_list = Contains-from_map link_port links (link_port k) (subst (λ ports. Contains ports (link_port k)) plan.unlink.2 at) in
      let l = from_list.0 in
      let lost = All-contains (λ m. ¬ IsKeptLink old new m) links l (Selects-only (λ m. ¬ IsKeptLink old new m) old.links links plan.unlink.1) from_list.1 in
      let l_there = Selects-part (λ m. ¬ IsKeptLink old new m) old.links links plan.unlink.1 l from_list.1 in
      let one = one_link-in_order old old_graph in
      let same_port : link_at old.links l.from l.require ≡ link_at old.links k.from k.require = ap (λ (q : Port). link_at old.links q.node q.require) (sym from_list.2) in
      let both : Some l ≡ Some k = sym (link_at-own old.links l one l_there) ∙ same_port ∙ link_at-own old.links k one there in
      let same : l ≡ k = cc in
      subst (λ m. ¬ IsKeptLink old new m) same lost

  -- a link that is gone begins at a touched node
  pub lost_touched : (k : Link) → Contains old.links k → ¬ IsKeptLink old new k → IsTouched old new k.from
  lost_touched k there lost =
      let inside = All-contains (IsLinkWithin old.nodes) old.links k old_graph.within there in
      let from = slice_get-there old.nodes k.from (within_list requires_of old.nodes k.from k.require inside.begins) in
      elim (has_node new.nodes from.0) [
        | inr missing ↦ inl (record { node = from.0; here = from.1; gone = missing })
        | inl found ↦
            let place = at_some_place new.nodes from.0 found in
            let exactly = kept_some old new old_graph new_graph k there from.0 from.1 place.0 place.1 in
            inr (record {
              twin = place.0;
              require = k.require;
              stays = record { node = from.0; here = from.1; there = place.1 };
              within = inside.begins;
              differs = λ same. lost (exactly.0 same);
            })
      ]

  -- a link that is made begins at a created node or at a touched one
  pub linked_touched : (l : Link) → Contains p.link l → Contains p.create l.from ⊎ ((i : ℕ) × IsTwin old new i l.from × IsTouched old new i)
  linked_touched l listed =
      let there = Selects-part (λ m. ¬ IsKeptLink new old m) new.links p.link plan.link l listed in
      let lost = All-contains (λ m. ¬ IsKeptLink new old m) p.link l (Selects-only (λ m. ¬ IsKeptLink new old m) new.links p.link plan.link) listed in
      let inside = All-contains (IsLinkWithin new.nodes) new.links l new_graph.within there in
      let low = within_list requires_of new.nodes l.from l.require inside.begins in
      let from = slice_get-there new.nodes l.from low in
      elim (has_node old.nodes from.0) [
        | inr missing ↦
            inl (Selects-has (IsGone new old) (range_with_len 0 (length new.nodes)) p.create plan.create l.from (Contains-places (length new.nodes) l.from low) (record { node = from.0; here = from.1; gone = missing }))
        | inl found ↦
            let place = at_some_place old.nodes from.0 found in
            let i = place.0 in
            let stays : IsTwin old new i l.from = record { node = from.0; here = place.1; there = from.1 } in
            let exactly = kept_some new old new_graph old_graph l there from.0 from.1 i place.1 in
            let differs = λ (same : SameTarget old new (target_of old.links i l.require) (target_of new.links l.from l.require)). lost (exactly.0 (turned_target old new (target_of old.links i l.require) (target_of new.links l.from l.require) same)) in
            let within = same_requires new old l.from i l.require (record { node = from.0; here = from.1; there = place.1 }) inside.begins in
            inr (i, stays, inr (record { twin = l.from; require = l.require; stays = stays; within = within; differs = differs }))
      ]
