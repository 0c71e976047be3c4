-- Lemmas on what is there after a plan's steps.
use Rattle.std.proofs.Common.{◌↔◌, ℕ, ◌<◌, length, Some, sym, ◌∙◌, ap, subst, inl, inr, Contains}
use Rattle.std.proofs.lemmas.List.Elements.{All-contains}
use Rattle.config_graph.specs.Graph.{Graph, IsGraph, requires_at, target_of}
use Rattle.config_graph.specs.declared.node.Link.{Link}
use Rattle.config_graph.specs.declared.node.Node.{Node}
use Rattle.change_plan.specs.Applying.{Connection, ConnectionAfter, Connects, IsConnected, KeepsItsLinks, MayBeRelinked, NodeAfter}
use Rattle.change_plan.specs.Differences.{IsKeptLink, IsSameLink, IsTwin, link_port}
use Rattle.change_plan.specs.Plans.{HasStepsBetween}
use Rattle.change_plan.specs.Touched.{IsTouched, SameTarget}
use Rattle.config_graph.specs.declared.node.Port.{Port}
use Rattle.change_plan.specs.declared.plan_data.Plan.{Plan}
use Rattle.change_plan.proofs.DifferenceLemmas.{one_node}
use Rattle.change_plan.proofs.SelectsLaws.{Selects-has, Selects-only, Selects-part}
use Rattle.change_plan.proofs.StepLaws.{gone_listed, has_node, kept, linked_touched, listed_gone, lost_touched, same_target, unlinked, unlinked_lost}
use Rattle.base.proofs.ContainsLaws.{Contains-at, Contains-from_map, at_some_place}
use Rattle.base.proofs.PlaceLaws.{slice_get-there}

-- a link and the same link make the same connection
same_connection : (g h : Graph) (k l : Link) (c : Connection) → IsSameLink g h k l → Connects g k c → Connects h l c
same_connection g h k l c same made = record {
  from = same.from.there ∙ ap Some (one_node g.nodes k.from same.from.node c.from same.from.here made.from);
  require = sym same.require ∙ made.require;
  to = same.to.there ∙ ap Some (one_node g.nodes k.to same.to.node c.to same.to.here made.to);
  provide = sym same.provide ∙ made.provide;
}

turned : (g h : Graph) (k l : Link) → IsSameLink g h k l → IsSameLink h g l k
turned g h k l same = record {
  from = record { node = same.from.node; here = same.from.there; there = same.from.here };
  require = sym same.require;
  to = record { node = same.to.node; here = same.to.there; there = same.to.here };
  provide = sym same.provide;
}

module _ (old new : Graph) (old_graph : IsGraph old) (new_graph : IsGraph new) (p : Plan) (plan : HasStepsBetween old new p) where
  pub nodes_after : (n : Node) → NodeAfter old new p n ↔ Contains new.nodes n
  nodes_after n = (to, from)
    where
      to : NodeAfter old new p n → Contains new.nodes n
      to (inl (there, stays)) =
          elim (has_node new.nodes n) [
            | inl found ↦ found
            | inr missing ↦ absurd (stays (gone_listed old new p.remove plan.remove n there missing))
          ]
      to (inr (i, there, at)) = Contains-at new.nodes i n at

      from : Contains new.nodes n → NodeAfter old new p n
      from found =
          elim (has_node old.nodes n) [
            | inl there ↦ inl (there, λ listed. listed_gone old new p.remove plan.remove n listed found)
            | inr missing ↦ inr (gone_listed new old p.create plan.create n found missing)
          ]

  pub connections_after : (c : Connection) → ConnectionAfter old new p c ↔ IsConnected new c
  connections_after c = (to, from)
    where
      to : ConnectionAfter old new p c → IsConnected new c
      to (inl (k, there, made, stays)) =
          elim (kept old new old_graph new_graph k there) [
            | inl (l, l_there, same) ↦ (l, l_there, same_connection old new k l c same made)
            | inr lost ↦ absurd (stays (unlinked old new old_graph new_graph p plan k there lost))
          ]
      to (inr (l, there, made)) = (l, Selects-part (λ m. ¬ IsKeptLink new old m) new.links p.link plan.link l there, made)

      from : IsConnected new c → ConnectionAfter old new p c
      from (l, there, made) =
          elim (kept new old new_graph old_graph l there) [
            | inl (k, k_there, same) ↦
                inl (k, k_there, same_connection new old l k c same made, λ at. unlinked_lost old new old_graph new_graph p plan k k_there at (l, there, turned new old l k same))
            | inr lost ↦ inr (l, Selects-has (λ m. ¬ IsKeptLink new old m) new.links p.link plan.link l there lost, made)
          ]

  -- a node that isn't frozen isn't touched
  pub keeps_links : (i : ℕ) → i < length old.nodes → ¬ Contains p.freeze i → KeepsItsLinks old new i
  keeps_links i low unfrozen =
      let here = slice_get-there old.nodes i low in
      elim (has_node new.nodes here.0) [
        | inr missing ↦ absurd (untouched (inl (record { node = here.0; here = here.1; gone = missing })))
        | inl found ↦
            let place = at_some_place new.nodes here.0 found in
            let stays : IsTwin old new i place.0 = record { node = here.0; here = here.1; there = place.1 } in
            record { twin = place.0; stays = stays; same = same place.0 stays }
      ]
    where
      untouched : ¬ IsTouched old new i
      untouched touched = unfrozen ((plan.freeze i).1 (inl touched))

      same : (twin : ℕ) → IsTwin old new i twin → (r : ℕ) → r < requires_at old.nodes i → SameTarget old new (target_of old.links i r) (target_of new.links twin r)
      same twin stays r within =
          elim (same_target old new old_graph new_graph i r twin r) [
            | inl is ↦ is
            | inr differs ↦ absurd (untouched (inr (record { twin = twin; require = r; stays = stays; within = within; differs = differs })))
          ]

  pub unlinked_frozen : (q : Port) → Contains p.unlink q → Contains p.freeze q.node
  unlinked_frozen q there =
      let links = plan.unlink.0 in
      let from_list = Contains-from_map link_port links q (subst (λ ports. Contains ports q) plan.unlink.2 there) in
      let l = from_list.0 in
      let lost = All-contains (λ m. ¬ IsKeptLink old new m) links l (Selects-only (λ m. ¬ IsKeptLink old new m) old.links links plan.unlink.1) from_list.1 in
      let l_there = Selects-part (λ m. ¬ IsKeptLink old new m) old.links links plan.unlink.1 l from_list.1 in
      subst (λ (o : Port). Contains p.freeze o.node) (sym from_list.2) ((plan.freeze l.from).1 (inl (lost_touched old new old_graph new_graph p plan l l_there lost)))

  -- a link that is made begins at a created node or at a frozen one
  pub linked_may_be : (l : Link) → Contains p.link l → MayBeRelinked old new p l.from
  linked_may_be l listed = elim (linked_touched old new old_graph new_graph p plan l listed) [
    | inl created ↦ inl created
    | inr w ↦ inr (w.0, w.1, (plan.freeze w.0).1 (inl w.2))
  ]
