-- What a plan links, by ports and slots of the configuration in which its nodes are made.
use Rattle.std.proofs.Common.{◌≡◌, ℕ, ◌+◌, ◌<◌, ◌≤◌, false, [], length, Option, Some, None, refl, sym, ap, ◌∙◌, subst, inl, inr, ⊎_elim, arith, Contains}
use Rattle.std.specs.Prelude.{◌⊎◌, ◌↔◌, ◌==◌, find, slice_get, option_map, option_and_then}
use Rattle.std.specs.List.{range_with_len}
use Rattle.std.proofs.lemmas.Bool.{and_from, and_parts, cases_lt, eq-eqb, eqb-true}
use Rattle.std.proofs.lemmas.List.Elements.{All-contains}
use Rattle.std.proofs.lemmas.Option.{same_Some}
use Rattle.change_plan.specs.Differences.{IsGone, IsKeptLink, IsTwin}
use Rattle.change_plan.specs.Touched.{IsTouched}
use Rattle.change_plan.specs.declared.plan_data.Plan.{Plan}
use Rattle.base.proofs.FindLaws.{Contains-find, find_passes, is_some-find_from, position_some}
use Rattle.base.proofs.OptionLaws.{Some-from_is_some, map_or_at}
use Rattle.base.proofs.PlaceLaws.{slice_get-there}
use Rattle.change_plan.proofs.StepLaws.{kept, linked_touched}
use Rattle.change_plan.proofs.SelectsLaws.{Selects-has, Selects-only, Selects-part}
use Rattle.config_graph.specs.Cycles.{IsLinked}
use Rattle.config_graph.specs.Graph.{Graph, IsLinkWithin, link_at, provides_of, requires_of}
use Rattle.config_graph.specs.GraphBy.{AreLinkedAt}
use Rattle.config_graph.specs.Kinds.{row}
use Rattle.config_graph.specs.declared.node.Link.{Link}
use Rattle.config_graph.specs.declared.node.Node.{Node}
use Rattle.config_graph.specs.declared.node.Target.{Target}
use Rattle.config_graph.proofs.IncomingLaws.{link_at-own}
use Rattle.config_graph.proofs.NumberingLaws.{within_list}
use Rattle.config_graph.proofs.OrderLaws.{one_link-in_order}
use Rattle.quiesce_core.specs.declared.state.Slot.{Slot}
use Rattle.quiesce_core.specs.Live.{AreLinked, IsLiveAt, IsLiveNode, StandsAt}
use Rattle.quiesce_laws.specs.Fitting.{Fits, KeptLink, Stands}
use Rattle.quiesce_core.specs.State.{Configuration, gate, owner, slot, target}
use Rattle.quiesce_core.specs.WellFormed.{LeadsToProvision}
use Rattle.base.proofs.ContainsLaws.{Contains-at}
use Rattle.change_plan_laws.specs.Commit.{is_at, is_link_of, new_link, new_link_of, new_links, node_path, slot_at}
use Rattle.change_plan_laws.specs.Commit as commit
use Rattle.change_plan_laws.specs.Committing.{IsTouchedSlot}
use Rattle.change_plan_laws.proofs.ReadyLemmas.{IsReady}
use Rattle.quiesce_laws.specs.Lists.{In}
use Rattle.quiesce_laws.specs.Work.{NewLink, NewNode, end_of}
use Rattle.quiesce_laws.proofs.AcyclicLaws.{one_place}
use Rattle.quiesce_core.proofs.ConfigurationLaws.{linked_made}
use Rattle.quiesce_core.proofs.LiveLinkLaws.{IsLiveLink, linked_at}
use Rattle.quiesce_laws.proofs.MakingLaws.{Making}
use Rattle.change_plan_laws.proofs.PlannedLemmas.{PortOf, kept_if, link_if, linked_if, old_link, port_of_link}
use Rattle.quiesce_laws.proofs.MemberLaws.{apart_pairs, contains_in, in_contains, map_apart, map_in, mapped}
use Rattle.change_plan_laws.proofs.StandingLaws.{in_if_stands, one_slot, stands_if_in, stands_if_slot}
use Rattle.quiesce_laws.specs.Commits.{AreLinks, Changed, IsToLink, OtherPort}

module _ (old new : Graph) (plan : Plan) (c : Configuration) (ready : IsReady old new plan c) (d : Configuration) (h : Making c new (IsTouchedSlot old new c) d []) where
  nodes_are : (node : Node) → Contains new.nodes node ↔ IsLiveNode d node
  nodes_are node = (
    (λ i. ⊎_elim (λ (l : (n : ℕ) × IsLiveAt d n node). l)
        (λ (m : (m : NewNode) × In [] m × (m.node ≡ node)). absurd m.1) (h.all node i)),
    λ l. (h.nodes l.0 node l.1).0,
  )

  stands_now : (n i : ℕ) → StandsAt c new.nodes n i → StandsAt d new.nodes n i
  stands_now n i s =
      let l = h.stays n s.made.node (record { made = s.made; there = s.there; live = s.live; is_node = refl }) (Contains-at new.nodes i s.made.node s.stands) in
      record { made = l.made; there = l.there; live = l.live; stands = s.stands ∙ ap Some (sym l.is_node) }

  one_link : (k l : Link) → Contains new.links k → Contains new.links l → k.from ≡ l.from → k.require ≡ l.require → k ≡ l
  one_link k l k_there l_there from require =
      let one = one_link-in_order new ready.new_graph in
      same_Some k l (sym (link_at-own new.links k one k_there) ∙ ap (λ i. link_at new.links i k.require) from ∙ ap (link_at new.links l.from) require ∙ link_at-own new.links l one l_there)

  -- a joint of port p
  record IsNewLink (p : ℕ) (l : NewLink) : Type 0 where
    link : Link
    listed : Contains plan.link link
    there : Contains new.links link
    lost : ¬ IsKeptLink new old link
    port_is : l.port ≡ p
    port : PortOf d new p (end_of l) link

  listed_there : (k : Link) → Contains plan.link k → Contains new.links k
  listed_there k listed = Selects-part (λ m. ¬ IsKeptLink new old m) new.links plan.link ready.steps.link k listed

  from_node : (k : Link) → Contains new.links k → (node : Node) × (slice_get new.nodes k.from ≡ Some node)
  from_node k there = let inside = All-contains (IsLinkWithin new.nodes) new.links k ready.new_graph.within there in slice_get-there new.nodes k.from (within_list requires_of new.nodes k.from k.require inside.begins)

  to_node : (k : Link) → Contains new.links k → (node : Node) × (slice_get new.nodes k.to ≡ Some node)
  to_node k there = let inside = All-contains (IsLinkWithin new.nodes) new.links k ready.new_graph.within there in slice_get-there new.nodes k.to (within_list provides_of new.nodes k.to k.provide inside.ends)

  is_new_link : (p : ℕ) (l : NewLink) → new_link_of new plan d p ≡ Some l → IsNewLink p l
  is_new_link p l e = by (find (is_link_of new d p) plan.link) refl e
    where
      by_slot : (k : Link) → find (is_link_of new d p) plan.link ≡ Some k → (o : Option ℕ) → slot_at d (node_path new k.to) ≡ o → option_map (λ n. record { port = p; node = n; provide = k.provide }) o ≡ Some l → IsNewLink p l
      by_slot k found None at e = absurd (cc)
      by_slot k found (Some n) at e =
          let mine : NewLink = record { port = p; node = n; provide = k.provide } in
          let same : mine ≡ l = same_Some mine l e in
          let listed = Contains-find (is_link_of new d p) plan.link k found in
          let there = listed_there k listed in
          let parts = and_parts (commit.stands_in new k.from d (owner d p)) ((gate d p).require == k.require) (find_passes (is_link_of new d p) plan.link k found) in
          let from = from_node k there in
          let to = to_node k there in
          record {
            link = k;
            listed = listed;
            there = there;
            lost = All-contains (λ m. ¬ IsKeptLink new old m) plan.link k (Selects-only (λ m. ¬ IsKeptLink new old m) new.links plan.link ready.steps.link) listed;
            port_is = sym (ap (λ (x : NewLink). x.port) same);
            port = subst (λ (x : NewLink). PortOf d new p (end_of x) k) same (record {
              from_there = stands_if_in d new ready.new_graph.paths_rise nodes_are (owner d p) k.from from.0 from.1 parts.0;
              require = eqb-true (gate d p).require k.require parts.1;
              to_there = stands_if_slot d new ready.new_graph.paths_rise nodes_are n k.to to.0 to.1 at;
              provide = refl;
            });
          }

      by : (o : Option Link) → find (is_link_of new d p) plan.link ≡ o → option_and_then (new_link new d p) o ≡ Some l → IsNewLink p l
      by None found e = absurd (cc)
      by (Some k) found e = by_slot k found (slot_at d (node_path new k.to)) refl e

  fits_of : (g : Configuration) (p : ℕ) (t : Target) (k : Link) → Contains new.links k → PortOf g new p t k → Fits g new p t
  fits_of g p t k there o = record {
    i = k.from;
    r = k.require;
    j = k.to;
    x = k.provide;
    stands = record { from_there = o.from_there; requirement = o.require; to_there = o.to_there; provision = o.provide };
    linked = linked_if new ready.new_graph k there;
  }

  -- a port with a new link has none yet
  no_target : (p : ℕ) (l : NewLink) → IsNewLink p l → (o : Option Target) → target d p ≡ o → o ≡ None
  no_target p l j None e = refl
  no_target p l j (Some u) e =
      let k = h.links p u e in
      let made = linked_made c p u k.leads in
      let f = k.fits in
      let w = link_if new f.i f.r f.j f.x f.linked in
      let from : f.i ≡ j.link.from = one_place d new.nodes ready.new_graph.paths_rise (owner d p) f.i j.link.from
      (subst (λ n. StandsAt d new.nodes n f.i) (sym (h.between.owners p made)) (stands_now (owner c p) f.i f.stands.from_there)) j.port.from_there in
      let require : f.r ≡ j.link.require = sym f.stands.requirement ∙ sym (h.between.requirements p made) ∙ j.port.require in
      let same : w.link ≡ j.link = one_link w.link j.link w.there j.there (w.from ∙ from) (w.require ∙ require) in
      let port : PortOf c new p u w.link = record {
        from_there = subst (StandsAt c new.nodes (owner c p)) (sym w.from) f.stands.from_there;
        require = f.stands.requirement ∙ sym w.require;
        to_there = subst (StandsAt c new.nodes u.node) (sym w.to) f.stands.to_there;
        provide = f.stands.provision ∙ sym w.provide;
      } in
      let was = old_link old new plan c ready p u k.leads in
      absurd (j.lost (subst (IsKeptLink new old) same (kept_if c new old p u w.link port (record {
        i = was.link.from;
        r = was.link.require;
        j = was.link.to;
        x = was.link.provide;
        stands = record { from_there = was.port.from_there; requirement = was.port.require; to_there = was.port.to_there; provision = was.port.provide };
        linked = linked_if old ready.old_graph was.link was.there;
      }))))

  changed : (p : ℕ) (l : NewLink) → IsNewLink p l → Changed c (IsTouchedSlot old new c) (owner d p)
  changed p l j =
      let s = j.port.from_there in
      let here : IsLiveAt d (owner d p) s.made.node = record { made = s.made; there = s.there; live = s.live; is_node = refl } in
      ⊎_elim
      (λ (created : Contains plan.create j.link.from).
      let gone = All-contains (IsGone new old) plan.create j.link.from (Selects-only (IsGone new old) (range_with_len 0 (length new.nodes)) plan.create ready.steps.create) created in
      ⊎_elim
      (λ (low : owner d p < length c.slots).
      let l' = h.old_live (owner d p) s.made.node here low in
      absurd (gone.gone (subst (Contains old.nodes) (same_Some s.made.node gone.node (sym s.stands ∙ gone.here))
      ((ready.graph.nodes_are s.made.node).1 (owner d p, l')))))
      (λ (high : length c.slots ≤ owner d p). inr high)
      (cases_lt (owner d p) (length c.slots)))
      (λ (w : (i : ℕ) × IsTwin old new i j.link.from × IsTouched old new i).
      let twin = w.1 in
      let was = (ready.graph.nodes_are twin.node).0 (Contains-at old.nodes w.0 twin.node twin.here) in
      let then_ : IsLiveAt c was.0 twin.node = was.1 in
      let now = h.stays was.0 twin.node then_ (Contains-at new.nodes j.link.from twin.node twin.there) in
      let same : was.0 ≡ owner d p = h.named was.0 (owner d p) twin.node s.made.node now here (ap (λ (x : Node). x.path) (same_Some twin.node s.made.node (sym twin.there ∙ s.stands))) in
      inl (w.0, w.2, subst (λ n. StandsAt c old.nodes n w.0) same (record { made = was.1.made; there = was.1.there; live = was.1.live; stands = twin.here ∙ ap Some (sym was.1.is_node) })))
      (linked_touched old new ready.old_graph ready.new_graph plan ready.steps j.link j.listed)

  provided : (p : ℕ) (l : NewLink) → IsNewLink p l → LeadsToProvision d (end_of l)
  provided p l j =
      let s = j.port.to_there in
      let inside = All-contains (IsLinkWithin new.nodes) new.links j.link ready.new_graph.within j.there in
      record {
        live = map_or_at (λ (m : Slot). m.live) (slot d l.node) false s.made s.there ∙ s.live;
        provided = subst (λ n. l.provide < n) (sym (map_or_at (λ (m : Slot). length (row m.node.kind).provides) (slot d l.node) 0 s.made s.there))
            (subst (λ x. x < provides_of s.made.node) (sym j.port.provide) (subst (λ n. j.link.provide < n) (map_or_at provides_of (slice_get new.nodes j.link.to) 0 s.made.node s.stands) inside.ends));
      }

  -- the port of a live node's requirement
  port_at : (n : ℕ) (node : Node) → IsLiveAt d n node → (r : ℕ) → r < requires_of node → (p : ℕ) × (p < length d.gates) × (owner d p ≡ n) × ((gate d p).require ≡ r)
  port_at n node l r low =
      let in_row = h.between.sound_now.rows n l.made l.there in
      let low' : r < length (row l.made.node.kind).requires_ = subst (λ (x : Node). r < requires_of x) (sym l.is_node) low in
      (l.made.first_port + r, omega (arith, in_row.within, low'), in_row.owned r low', in_row.in_order r low')

  slot_found : (n i : ℕ) → StandsAt d new.nodes n i → slot_at d (node_path new i) ≡ Some n
  slot_found n i s =
      let k = position_some (is_at (node_path new i)) d.slots n s.made s.there (sym (map_or_at (is_at (node_path new i)) (slot d n) false s.made s.there) ∙ in_if_stands d new n i s) in
      let t = stands_if_slot d new ready.new_graph.paths_rise nodes_are k.0 i s.made.node s.stands k.1 in
      k.1 ∙ ap Some (one_slot d h.named new.nodes k.0 n i t s)

  new_link_found : (k : Link) → Contains plan.link k → (l : NewLink) × In (new_links new plan d) l × Stands d new l.port (end_of l) k.from k.require k.to k.provide
  new_link_found k listed =
      let there = listed_there k listed in
      let inside = All-contains (IsLinkWithin new.nodes) new.links k ready.new_graph.within there in
      let from = from_node k there in
      let to = to_node k there in
      let live = (nodes_are from.0).0 (Contains-at new.nodes k.from from.0 from.1) in
      let here : IsLiveAt d live.0 from.0 = live.1 in
      let s : StandsAt d new.nodes live.0 k.from = record { made = live.1.made; there = live.1.there; live = live.1.live; stands = from.1 ∙ ap Some (sym live.1.is_node) } in
      let end_ = (nodes_are to.0).0 (Contains-at new.nodes k.to to.0 to.1) in
      let t : StandsAt d new.nodes end_.0 k.to = record { made = end_.1.made; there = end_.1.there; live = end_.1.live; stands = to.1 ∙ ap Some (sym end_.1.is_node) } in
      let p = port_at live.0 from.0 here k.require (subst (λ n. k.require < n) (map_or_at requires_of (slice_get new.nodes k.from) 0 from.0 from.1) inside.begins) in
      let owned : StandsAt d new.nodes (owner d p.0) k.from = subst (λ n. StandsAt d new.nodes n k.from) (sym p.2) s in
      let found = Some-from_is_some (find (is_link_of new d p.0) plan.link) (is_some-find_from (is_link_of new d p.0) plan.link k listed
      (and_from (commit.stands_in new k.from d (owner d p.0)) ((gate d p.0).require == k.require) (in_if_stands d new (owner d p.0) k.from owned) (eq-eqb (gate d p.0).require k.require p.3))) in
      let other = found.0 in
      let other_listed = Contains-find (is_link_of new d p.0) plan.link other found.1 in
      let other_there = listed_there other other_listed in
      let parts = and_parts (commit.stands_in new other.from d (owner d p.0)) ((gate d p.0).require == other.require) (find_passes (is_link_of new d p.0) plan.link other found.1) in
      let other_from = from_node other other_there in
      let other_stands = stands_if_in d new ready.new_graph.paths_rise nodes_are (owner d p.0) other.from other_from.0 other_from.1 parts.0 in
      let same : other ≡ k = one_link other k other_there there (one_place d new.nodes ready.new_graph.paths_rise (owner d p.0) other.from k.from other_stands owned) (sym (eqb-true (gate d p.0).require other.require parts.1) ∙ p.3) in
      let is : new_link_of new plan d p.0 ≡ Some (record { port = p.0; node = end_.0; provide = k.provide }) =
      ap (λ o. option_and_then (new_link new d p.0) o) (found.1 ∙ ap Some same) ∙ ap (λ o. option_map (λ n. the_new_link p.0 k n) o) (slot_found end_.0 k.to t) in (
        record { port = p.0; node = end_.0; provide = k.provide },
        map_in (new_link_of new plan d) 0 (length d.gates) p.0 (record { port = p.0; node = end_.0; provide = k.provide }) (omega arith) (let low = p.1 in omega arith) is,
        record { from_there = owned; requirement = p.3; to_there = t; provision = refl },
      )
    where
      the_new_link : ℕ → Link → ℕ → NewLink
      the_new_link p k n = record { port = p; node = n; provide = k.provide }

  all_links : (i r j x : ℕ) → IsLinked new i r j x → AreLinkedAt (AreLinked d) new.nodes i r j x ⊎ ((l : NewLink) × Contains (new_links new plan d) l × Stands d new l.port (end_of l) i r j x)
  all_links i r j x e =
      let w = link_if new i r j x e in
      let k = w.link in
      ⊎_elim
      (λ (stays : IsKeptLink new old k). inl ((linked_at d new.nodes i r j x).0 (kept_link k w.there stays i r j x w.from w.require w.to w.provide)))
      (λ (lost : ¬ IsKeptLink new old k).
      let listed = Selects-has (λ m. ¬ IsKeptLink new old m) new.links plan.link ready.steps.link k w.there lost in
      let found = new_link_found k listed in
      inr (
        found.0,
        in_contains (new_links new plan d) found.0 found.1,
        record {
          from_there = subst (StandsAt d new.nodes (owner d found.0.port)) w.from found.2.from_there;
          requirement = found.2.requirement ∙ w.require;
          to_there = subst (StandsAt d new.nodes found.0.node) w.to found.2.to_there;
          provision = found.2.provision ∙ w.provide;
        },
      ))
      (kept new old ready.new_graph ready.old_graph k w.there)
    where
      kept_link : (k : Link) → Contains new.links k → IsKeptLink new old k → (i r j x : ℕ) → k.from ≡ i → k.require ≡ r → k.to ≡ j → k.provide ≡ x → IsLiveLink d new.nodes i r j x
      kept_link k there (l, l_there, same) i r j x from require to provide =
          let at = port_of_link old new plan c ready l l_there in
          let p = at.0 in
          let made = linked_made c p at.1 at.2 in
          let fs = at.3.from_there in
          let ts = at.3.to_there in
          let from_c : StandsAt c new.nodes (owner c p) k.from = record { made = fs.made; there = fs.there; live = fs.live; stands = same.from.here ∙ ap Some (same_Some same.from.node fs.made.node (sym same.from.there ∙ fs.stands)) } in
          let to_c : StandsAt c new.nodes at.1.node k.to = record { made = ts.made; there = ts.there; live = ts.live; stands = same.to.here ∙ ap Some (same_Some same.to.node ts.made.node (sym same.to.there ∙ ts.stands)) } in
          let is_kept : KeptLink c new p at.1 = record { leads = at.2; fits = fits_of c p at.1 k there (record { from_there = from_c; require = at.3.require ∙ sym same.require; to_there = to_c; provide = at.3.provide ∙ sym same.provide }) } in
          record {
            port = p;
            to = at.1.node;
            leads = h.kept p at.1 is_kept ∙ ap (λ y. Some (record { node = at.1.node; provide = y })) (at.3.provide ∙ sym same.provide ∙ provide);
            requirement = h.between.requirements p made ∙ at.3.require ∙ sym same.require ∙ require;
            from_there = subst (λ n. StandsAt d new.nodes n i) (sym (h.between.owners p made)) (subst (StandsAt d new.nodes (owner c p)) from (stands_now (owner c p) k.from from_c));
            to_there = subst (StandsAt d new.nodes at.1.node) to (stands_now at.1.node k.to to_c);
          }

  record AtPort (l : NewLink) (p : ℕ) : Type 0 where
    made : p < length d.gates
    changed : Changed c (IsTouchedSlot old new c) (owner d p)
    unlinked : target d p ≡ None
    fits : Fits d new p (end_of l)
    leads : LeadsToProvision d (end_of l)

  to_link_of : (l : NewLink) (p : ℕ) → l.port ≡ p → AtPort l p → IsToLink c new (IsTouchedSlot old new c) d l
  to_link_of l p same a =
      let b = subst (AtPort l) (sym same) a in
      record { made = b.made; changed = b.changed; unlinked = b.unlinked; fits = b.fits; leads = b.leads }

  pub are_links : AreLinks c new (IsTouchedSlot old new c) d (new_links new plan d)
  are_links = record {
    to_link = λ l i.
        let m = mapped (new_link_of new plan d) 0 (length d.gates) l (contains_in (new_links new plan d) l i) in
        let j = is_new_link m.at l m.is in
        to_link_of l m.at j.port_is (record {
          made = let low = m.below in omega arith;
          changed = changed m.at l j;
          unlinked = no_target m.at l j (target d m.at) refl;
          fits = fits_of d m.at (end_of l) j.link j.there j.port;
          leads = provided m.at l j;
        });
    all_links = all_links;
    links_apart = apart_pairs OtherPort (new_links new plan d) (map_apart (new_link_of new plan d) OtherPort
        (λ p q x y below is_x is_y same. let a = (is_new_link p x is_x).port_is in let b = (is_new_link q y is_y).port_is in absurd (omega (arith, below, a, b, same))) 0 (length d.gates));
  }
