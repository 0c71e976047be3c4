-- What a plan removes, makes and unlinks, by slots and ports of the configuration whose graph is the old one.
use Rattle.std.proofs.Common.{◌≡◌, ℕ, suc, ◌+◌, true, ◌&&◌, List, [], ◌∷◌, length, Option, Some, None, refl, sym, ap, ◌∙◌, subst, inl, inr, ⊎_elim, arith, Contains}
use Rattle.std.specs.Prelude.{◌⊎◌, ◌==◌, find, slice_get, unwrap_or, option_map, option_and_then}
use Rattle.std.specs.List.{range_with_len}
use Rattle.std.proofs.lemmas.Bool.{and_from, and_parts, eq-eqb, eqb-true}
use Rattle.std.proofs.lemmas.List.Elements.{All-contains}
use Rattle.std.proofs.lemmas.Option.{same_Some, slice_get_within}
use Rattle.change_plan.specs.Differences.{IsGone, IsKeptLink, IsTwin, link_port}
use Rattle.config_graph.specs.declared.node.Port.{Port}
use Rattle.change_plan.specs.declared.plan_data.Plan.{Plan}
use Rattle.change_plan.specs.declared.plan_data.Shift.{Shift}
use Rattle.change_plan.proofs.StepLaws.{has_node, kept, lost_touched, unlinked}
use Rattle.base.proofs.PlaceLaws.{slice_get-there}
use Rattle.change_plan.proofs.NodeLaws.{one_path}
use Rattle.change_plan.proofs.SelectsLaws.{Selects-has, Selects-only, Selects-part}
use Rattle.config_graph.specs.Cycles.{IsLinked}
use Rattle.config_graph.specs.Graph.{Graph, IsGraph, IsLinkWithin, begins_at, link_at, requires_of}
use Rattle.config_graph.specs.Sound.{HasItsArgument}
use Rattle.config_graph.specs.Kinds.{row}
use Rattle.config_graph.specs.declared.kind.Kind.TheVariants.{Fork}
use Rattle.config_graph.specs.declared.node.Link.{Link}
use Rattle.config_graph.specs.declared.node.Node.{Node}
use Rattle.config_graph.specs.declared.node.Target.{Target}
use Rattle.config_graph.proofs.IncomingLaws.{link_at-own}
use Rattle.base.proofs.FindLaws.{Contains-find, find_passes}
use Rattle.config_graph.proofs.LinkLaws.{begins_there}
use Rattle.config_graph.proofs.NumberingLaws.{within_list}
use Rattle.config_graph.proofs.OrderLaws.{one_link-in_order}
use Rattle.quiesce_core.specs.declared.state.Slot.{Slot}
use Rattle.quiesce_core.specs.Live.{IsLiveAt, StandsAt}
use Rattle.quiesce_core.specs.Rules.{is_kind}
use Rattle.quiesce_core.specs.State.{Configuration, gate, is_live, owner, slot, target}
use Rattle.quiesce_core.proofs.CycleLaws.{made_below}
use Rattle.quiesce_core.proofs.LiveLinkLaws.{linked_at}
use Rattle.base.proofs.OptionLaws.{map_or_true}
use Rattle.base.proofs.ContainsLaws.{Contains-from_map, Contains-at, at_some_place, any_if, any_of}
use Rattle.base.proofs.RangeLaws.{Contains-places}
use Rattle.change_plan_laws.specs.Commit.{is_at, is_one_of, is_unlinked_by, makes_from, node_at, node_path, slot_at, source_of, work}
use Rattle.change_plan_laws.specs.Commit as commit
use Rattle.change_plan_laws.specs.Committing.{IsTouchedSlot}
use Rattle.change_plan_laws.proofs.ReadyLemmas.{IsReady}
use Rattle.quiesce_laws.specs.Fitting.{Fits, KeptLink}
use Rattle.quiesce_laws.specs.Lists.{Apart, In}
use Rattle.quiesce_laws.specs.Work.{AreNumbered, NewNode}
use Rattle.quiesce_core.proofs.ConfigurationLaws.{linked_made}
use Rattle.quiesce_laws.proofs.MakingLaws.{argument_test}
use Rattle.quiesce_laws.proofs.MemberLaws.{apart_pairs, contains_in, in_contains, select, select_apart, selected}
use Rattle.change_plan_laws.proofs.RisingLaws.{selects_apart}
use Rattle.change_plan_laws.proofs.StandingLaws.{in_if_stands, one_port, one_slot, stands_if_in, stands_if_live, stands_if_slot, stands_live_at}
use Rattle.quiesce_laws.specs.Commits.{Differ, IsToRemove, IsToUnlink, IsWork, OtherPath, OtherSource}

-- a link of a graph, as what it says
pub linked_if : (g : Graph) → IsGraph g → (l : Link) → Contains g.links l → IsLinked g l.from l.require l.to l.provide
linked_if g is l there = ap (λ o. option_map (λ (k : Link). record { node = k.to; provide = k.provide }) o) (link_at-own g.links l (one_link-in_order g is) there)

abbrev link_end : Link → Target
link_end k = record { node = k.to; provide = k.provide }

pub record IsLink (g : Graph) (i r j x : ℕ) : Type 0 where
  pub link : Link
  pub there : Contains g.links link
  pub from : link.from ≡ i
  pub require : link.require ≡ r
  pub to : link.to ≡ j
  pub provide : link.provide ≡ x

pub link_if : (g : Graph) (i r j x : ℕ) → IsLinked g i r j x → IsLink g i r j x
link_if g i r j x e = by (link_at g.links i r) refl e
  where
    by : (o : Option Link) → link_at g.links i r ≡ o → option_map link_end o ≡ Some (record { node = j; provide = x }) → IsLink g i r j x
    by None at e = absurd (cc)
    by (Some l) at e =
        let begins = begins_there i r l (find_passes (begins_at i r) g.links l at) in
        let same : link_end l ≡ record { node = j; provide = x } = same_Some (link_end l) (record { node = j; provide = x }) e in
        record { link = l; there = Contains-find (begins_at i r) g.links l at; from = begins.0; require = begins.1; to = ap (λ (t : Target). t.node) same; provide = ap (λ (t : Target). t.provide) same }

-- a slot that stands in two graphs
twin_of : (c : Configuration) (g h : Graph) (n i j : ℕ) → StandsAt c g.nodes n i → StandsAt c h.nodes n j → IsTwin g h i j
twin_of c g h n i j s t = record { node = s.made.node; here = s.stands; there = t.stands ∙ ap (λ (m : Slot). Some m.node) (same_Some t.made s.made (sym t.there ∙ s.there)) }

twin_stands : (c : Configuration) (g h : Graph) (n i j : ℕ) → StandsAt c g.nodes n i → IsTwin g h i j → StandsAt c h.nodes n j
twin_stands c g h n i j s t = record { made = s.made; there = s.there; live = s.live; stands = t.there ∙ ap Some (same_Some t.node s.made.node (sym t.here ∙ s.stands)) }

-- a port stands as link k of g
pub record PortOf (c : Configuration) (g : Graph) (p : ℕ) (t : Target) (k : Link) : Type 0 where
  pub from_there : StandsAt c g.nodes (owner c p) k.from
  pub require : (gate c p).require ≡ k.require
  pub to_there : StandsAt c g.nodes t.node k.to
  pub provide : t.provide ≡ k.provide

-- what fits the other graph is kept there
pub kept_if : (c : Configuration) (g h : Graph) (p : ℕ) (t : Target) (k : Link) → PortOf c g p t k → Fits c h p t → IsKeptLink g h k
kept_if c g h p t k o f =
    let w = link_if h f.i f.r f.j f.x f.linked in (
      w.link,
      w.there,
      record {
        from = twin_of c g h (owner c p) k.from w.link.from o.from_there (subst (StandsAt c h.nodes (owner c p)) (sym w.from) f.stands.from_there);
        require = sym o.require ∙ f.stands.requirement ∙ sym w.require;
        to = twin_of c g h t.node k.to w.link.to o.to_there (subst (StandsAt c h.nodes t.node) (sym w.to) f.stands.to_there);
        provide = sym o.provide ∙ f.stands.provision ∙ sym w.provide;
      },
    )

pub kept_fits : (c : Configuration) (g h : Graph) → IsGraph h → (p : ℕ) (t : Target) (k : Link) → PortOf c g p t k → IsKeptLink g h k → Fits c h p t
kept_fits c g h is p t k o (l, there, same) = record {
  i = l.from;
  r = l.require;
  j = l.to;
  x = l.provide;
  stands = record {
    from_there = twin_stands c g h (owner c p) k.from l.from o.from_there same.from;
    requirement = o.require ∙ same.require;
    to_there = twin_stands c g h t.node k.to l.to o.to_there same.to;
    provision = o.provide ∙ same.provide;
  };
  linked = linked_if h is l there;
}

module _ (old new : Graph) (plan : Plan) (c : Configuration) (ready : IsReady old new plan c) where
  live_stands : (n : ℕ) → is_live c n ≡ true → (i : ℕ) × StandsAt c old.nodes n i
  live_stands n h =
      let m = map_or_true (λ (m : Slot). m.live) (slot c n) h in
      let w = stands_if_live c old ready.graph.paths_rise ready.graph.nodes_are n m.0.node (record { made = m.0; there = m.1; live = m.2; is_node = refl }) in
      (w.0, w.2)

  -- a linked port is a link of the old graph
  pub record OldLink (p : ℕ) (t : Target) : Type 0 where
    pub link : Link
    pub there : Contains old.links link
    pub port : PortOf c old p t link

  pub old_link : (p : ℕ) (t : Target) → target c p ≡ Some t → OldLink p t
  old_link p t e =
      let i = live_stands (owner c p) (ready.after.owners_live p t e) in
      let j = live_stands t.node (ready.after.sound.targets p t e).live in
      let w = link_if old i.0 (gate c p).require j.0 t.provide ((ready.graph.links_are i.0 (gate c p).require j.0 t.provide).1
      ((linked_at c old.nodes i.0 (gate c p).require j.0 t.provide).0 (record { port = p; to = t.node; leads = e; requirement = refl; from_there = i.1; to_there = j.1 }))) in
      record {
        link = w.link;
        there = w.there;
        port = record {
          from_there = subst (StandsAt c old.nodes (owner c p)) (sym w.from) i.1;
          require = sym w.require;
          to_there = subst (StandsAt c old.nodes t.node) (sym w.to) j.1;
          provide = sym w.provide;
        };
      }

  -- and a link of the old graph is a linked port
  pub port_of_link : (k : Link) → Contains old.links k → (p : ℕ) × (t : Target) × (target c p ≡ Some t) × PortOf c old p t k
  port_of_link k there =
      let w = (linked_at c old.nodes k.from k.require k.to k.provide).1 ((ready.graph.links_are k.from k.require k.to k.provide).0 (linked_if old ready.old_graph k there)) in
      (w.port, record { node = w.to; provide = k.provide }, w.leads, record { from_there = w.from_there; require = w.requirement; to_there = w.to_there; provide = refl })

  pub unlink_is : (p : ℕ) → In (commit.ports_where (is_unlinked_by old plan c) c) p → IsToUnlink c new (IsTouchedSlot old new c) p
  unlink_is p i =
      let s = selected (is_unlinked_by old plan c) 0 (length c.gates) p i in
      let w = any_of (λ (q : Port). commit.stands_in old q.node c (owner c p) && (gate c p).require == q.require) plan.unlink s.passes in
      let parts = and_parts (commit.stands_in old w.0.node c (owner c p)) ((gate c p).require == w.0.require) w.2 in
      let links = ready.steps.unlink.0 in
      let from_list = Contains-from_map link_port links w.0 (subst (λ ports. Contains ports w.0) ready.steps.unlink.2 w.1) in
      let l = from_list.0 in
      let there = Selects-part (λ k. ¬ IsKeptLink old new k) old.links links ready.steps.unlink.1 l from_list.1 in
      let lost = All-contains (λ k. ¬ IsKeptLink old new k) links l (Selects-only (λ k. ¬ IsKeptLink old new k) old.links links ready.steps.unlink.1) from_list.1 in
      let inside = All-contains (IsLinkWithin old.nodes) old.links l ready.old_graph.within there in
      let node = slice_get-there old.nodes l.from (within_list requires_of old.nodes l.from l.require inside.begins) in
      let stands = stands_if_in c old ready.graph.paths_rise ready.graph.nodes_are (owner c p) l.from node.0 node.1 (ap (λ (q : Port). commit.stands_in old q.node c (owner c p)) (sym from_list.2) ∙ parts.0) in
      let require : (gate c p).require ≡ l.require = eqb-true (gate c p).require w.0.require parts.1 ∙ ap (λ (q : Port). q.require) from_list.2 in
      let port = port_of_link l there in
      let same : port.0 ≡ p = one_port c ready.after.sound port.0 p (linked_made c port.0 port.1 port.2) (omega (arith, s.below))
      (one_slot c ready.after.named old.nodes (owner c port.0) (owner c p) l.from port.3.from_there stands) (port.3.require ∙ sym require) in
      let leads : target c p ≡ Some port.1 = sym (ap (target c) same) ∙ port.2 in
      record {
        to = port.1;
        leads = leads;
        touched = (l.from, lost_touched old new ready.old_graph ready.new_graph plan ready.steps l there lost, stands);
        unkept = λ t k.
            let one : port.1 ≡ t = same_Some port.1 t (sym leads ∙ k.leads) in
            lost (kept_if c old new p t l (record { from_there = stands; require = require; to_there = subst (λ (u : Target). StandsAt c old.nodes u.node l.to) one port.3.to_there; provide = subst (λ (u : Target). u.provide ≡ l.provide) one port.3.provide }) k.fits);
      }

  pub all_unlinks : (p : ℕ) (t : Target) → target c p ≡ Some t → In (commit.ports_where (is_unlinked_by old plan c) c) p ⊎ KeptLink c new p t
  all_unlinks p t e =
      let o = old_link p t e in
      ⊎_elim
      (λ (k : IsKeptLink old new o.link). inr (record { leads = e; fits = kept_fits c old new ready.new_graph p t o.link o.port k }))
      (λ (lost : ¬ IsKeptLink old new o.link). inl (select (is_unlinked_by old plan c) 0 (length c.gates) p (omega arith) (omega (arith, linked_made c p t e))
      (any_if (λ (q : Port). commit.stands_in old q.node c (owner c p) && (gate c p).require == q.require) plan.unlink (link_port o.link) (unlinked old new ready.old_graph ready.new_graph plan ready.steps o.link o.there lost)
      (and_from (commit.stands_in old o.link.from c (owner c p)) ((gate c p).require == o.link.require) (in_if_stands c old (owner c p) o.link.from o.port.from_there) (eq-eqb (gate c p).require o.link.require o.port.require)))))
      (kept old new ready.old_graph ready.new_graph o.link o.there)

  -- removed nodes

  gone_at : (i : ℕ) → Contains plan.remove i → IsGone old new i
  gone_at i h = All-contains (IsGone old new) plan.remove i (Selects-only (IsGone old new) (range_with_len 0 (length old.nodes)) plan.remove ready.steps.remove) h

  remove_is : (n : ℕ) → In (commit.slots_where (is_one_of old plan.remove c) c) n → IsToRemove c new (IsTouchedSlot old new c) n
  remove_is n h =
      let s = selected (is_one_of old plan.remove c) 0 (length c.slots) n h in
      let w = any_of (λ i. commit.stands_in old i c n) plan.remove s.passes in
      let gone = gone_at w.0 w.1 in
      let stands = stands_if_in c old ready.graph.paths_rise ready.graph.nodes_are n w.0 gone.node gone.here w.2 in
      record { node = gone.node; live = stands_live_at c old.nodes n w.0 gone.node gone.here stands; touched = (w.0, inl gone, stands); gone = gone.gone }

  removes_gone : (n i : ℕ) → StandsAt c old.nodes n i → IsGone old new i → In (commit.slots_where (is_one_of old plan.remove c) c) n
  removes_gone n i s gone = select (is_one_of old plan.remove c) 0 (length c.slots) n (omega arith) (omega (arith, made_below c n s.made s.there))
      (any_if (λ i. commit.stands_in old i c n) plan.remove i
      (Selects-has (IsGone old new) (range_with_len 0 (length old.nodes)) plan.remove ready.steps.remove i (Contains-places (length old.nodes) i (slice_get_within old.nodes i gone.node gone.here)) gone)
      (in_if_stands c old n i s))

  all_removes : (n : ℕ) (node : Node) → IsLiveAt c n node → In (commit.slots_where (is_one_of old plan.remove c) c) n ⊎ Contains new.nodes node
  all_removes n node l =
      let w = stands_if_live c old ready.graph.paths_rise ready.graph.nodes_are n node l in
      ⊎_elim
      (λ (found : Contains new.nodes node). inr found)
      (λ (missing : ¬ Contains new.nodes node). inl (removes_gone n w.0 w.2 (record { node = node; here = w.1; gone = missing })))
      (has_node new.nodes node)

  -- nodes that are made

  -- where a node to be made comes from
  pub record IsMade (k : ℕ) (js : List ℕ) (m : NewNode) : Type 0 where
    pub place : ℕ
    pub listed : In js place
    pub node_is : m.node ≡ node_at new place
    pub from_is : m.from ≡ source_of old plan c place

  made_of : (k : ℕ) (js : List ℕ) (m : NewNode) → In (makes_from old new plan c k js) m → IsMade k js m
  made_of k [] m h = absurd h
  made_of k (j ∷ js) m h = ⊎_elim
      (λ (here : record { slot = k; node = node_at new j; from = source_of old plan c j } ≡ m). record { place = j; listed = inl refl; node_is = sym (ap (λ (x : NewNode). x.node) here); from_is = sym (ap (λ (x : NewNode). x.from) here) })
      (λ (later : In (makes_from old new plan c (k + 1) js) m). let w = made_of (k + 1) js m later in record { place = w.place; listed = inr w.listed; node_is = w.node_is; from_is = w.from_is })
      h

  makes_have : (k : ℕ) (js : List ℕ) (j : ℕ) → In js j → (m : NewNode) × In (makes_from old new plan c k js) m × (m.node ≡ node_at new j)
  makes_have k [] j h = absurd h
  makes_have k (i ∷ js) j h = ⊎_elim
      (λ (here : i ≡ j). (record { slot = k; node = node_at new i; from = source_of old plan c i }, inl refl, ap (node_at new) here))
      (λ (later : In js j). let w = makes_have (k + 1) js j later in (w.0, inr w.1, w.2))
      h

  numbered : (k : ℕ) (js : List ℕ) → AreNumbered k (makes_from old new plan c k js)
  numbered k [] = tt
  numbered k (j ∷ js) = (refl, numbered (k + 1) js)

  makes_apart : (R : NewNode → NewNode → Type 0) (S : ℕ → ℕ → Type 0)
      → ((i j : ℕ) (m n : NewNode) → S i j → m.node ≡ node_at new i → n.node ≡ node_at new j → m.from ≡ source_of old plan c i → n.from ≡ source_of old plan c j → R m n)
      → (k : ℕ) (js : List ℕ) → Apart S js → Apart R (makes_from old new plan c k js)
  makes_apart R S by k [] h = tt
  makes_apart R S by k (j ∷ js) h = (
    λ n i. (let w = made_of (k + 1) js n i in by j w.place (record { slot = k; node = node_at new j; from = source_of old plan c j }) n (h.0 w.place w.listed) refl w.node_is refl w.from_is),
    makes_apart R S by (k + 1) js h.1,
  )

  create_gone : (j : ℕ) → Contains plan.create j → IsGone new old j
  create_gone j h = All-contains (IsGone new old) plan.create j (Selects-only (IsGone new old) (range_with_len 0 (length new.nodes)) plan.create ready.steps.create) h

  node_is : (g : Graph) (i : ℕ) (node : Node) → slice_get g.nodes i ≡ Some node → node_at g i ≡ node
  node_is g i node e = ap (λ o. unwrap_or o (record { path = []; kind = Fork; arg = None })) e

  pub source_is : (m : NewNode) (j k : ℕ) → m.from ≡ source_of old plan c j → m.from ≡ Some k → (s : Shift) × Contains plan.moves s × (s.new ≡ j) × StandsAt c old.nodes k s.old
  source_is m j k is e = by (find (λ (s : Shift). s.new == j) plan.moves) refl (sym is ∙ e)
    where
      by : (o : Option Shift) → find (λ (s : Shift). s.new == j) plan.moves ≡ o → option_and_then (λ (s : Shift). slot_at c (node_path old s.old)) o ≡ Some k
          → (s : Shift) × Contains plan.moves s × (s.new ≡ j) × StandsAt c old.nodes k s.old
      by None at e = absurd (cc)
      by (Some s) at e =
          let there = Contains-find (λ (s : Shift). s.new == j) plan.moves s at in
          let gone = ready.moves.removed s there in
          (s, there, eqb-true s.new j (find_passes (λ (s : Shift). s.new == j) plan.moves s at), stands_if_slot c old ready.graph.paths_rise ready.graph.nodes_are k s.old gone.node gone.here e)

  create_apart : Apart Differ plan.create
  create_apart = selects_apart (IsGone new old) (length new.nodes) plan.create ready.steps.create

  makes_long : (k : ℕ) (js : List ℕ) → length (makes_from old new plan c k js) ≡ length js
  makes_long k [] = refl
  makes_long k (j ∷ js) = ap (λ n. suc n) (makes_long (k + 1) js)

  pub makes_are : (m : NewNode) → In (makes_from old new plan c (length c.slots) plan.create) m → (j : ℕ) × (node : Node) × In plan.create j × (slice_get new.nodes j ≡ Some node) × (m.node ≡ node) × (¬ Contains old.nodes node) × (m.from ≡ source_of old plan c j)
  makes_are m h =
      let w = made_of (length c.slots) plan.create m h in
      let g = create_gone w.place (in_contains plan.create w.place w.listed) in
      (w.place, g.node, w.listed, g.here, w.node_is ∙ node_is new w.place g.node g.here, g.gone, w.from_is)

  in_old : (n : ℕ) (node : Node) → IsLiveAt c n node → Contains old.nodes node
  in_old n node l = (ready.graph.nodes_are node).1 (n, l)

  same_kind : (a b : Node) → a.kind ≡ b.kind → is_kind a.kind b.kind ≡ true
  same_kind a b e = eq-eqb (row a.kind).number (row b.kind).number (ap (λ k. (row k).number) e)

  pub is_work : IsWork c new (IsTouchedSlot old new c) (work old new plan c)
  is_work = record {
    unlinks = λ p there. unlink_is p (contains_in (work old new plan c).unlinks p there);
    all_unlinks = λ p t e. ⊎_elim (λ (i : In (work old new plan c).unlinks p). inl (in_contains (work old new plan c).unlinks p i)) inr (all_unlinks p t e);
    unlinks_apart = apart_pairs Differ (work old new plan c).unlinks (select_apart (is_unlinked_by old plan c) 0 (length c.gates));
    removes = λ n there. remove_is n (contains_in (work old new plan c).removes n there);
    all_removes = λ n node l. ⊎_elim (λ (i : In (work old new plan c).removes n). inl (in_contains (work old new plan c).removes n i)) inr (all_removes n node l);
    removes_apart = apart_pairs Differ (work old new plan c).removes (select_apart (is_one_of old plan.remove c) 0 (length c.slots));
    makes = λ m h.
        let w = makes_listed m h in (
          subst (Contains new.nodes) (sym w.4) (Contains-at new.nodes w.0 w.1 w.3),
          λ n node l there same.
              let at = at_some_place new.nodes node there in
              let one = one_path new.nodes ready.new_graph.paths_rise w.0 at.0 w.1 node w.3 at.1 (sym (ap (λ (x : Node). x.path) w.4) ∙ same) in
              let is : node ≡ w.1 = same_Some node w.1 (sym at.1 ∙ ap (slice_get new.nodes) (sym one) ∙ w.3) in
              w.5 (subst (Contains old.nodes) is (in_old n node l)),
        );
    all_makes = λ node there. ⊎_elim
        (λ (found : Contains old.nodes node). let l = (ready.graph.nodes_are node).0 found in inl l)
        (λ (missing : ¬ Contains old.nodes node).
        let at = at_some_place new.nodes node there in
        let listed = Selects-has (IsGone new old) (range_with_len 0 (length new.nodes)) plan.create ready.steps.create at.0 (Contains-places (length new.nodes) at.0 (slice_get_within new.nodes at.0 node at.1)) (record { node = node; here = at.1; gone = missing }) in
        let w = makes_have (length c.slots) plan.create at.0 (contains_in plan.create at.0 listed) in
        inr (w.0, in_contains (work old new plan c).makes w.0 w.1, w.2 ∙ node_is new at.0 node at.1))
        (has_node old.nodes node);
    makes_apart = apart_pairs OtherPath (work old new plan c).makes (apart_paths (length c.slots) plan.create (λ j h. in_contains plan.create j h) create_apart);
    arguments = λ m h. let w = makes_listed m h in argument_test m.node (subst HasItsArgument (sym w.4) (All-contains HasItsArgument new.nodes w.1 ready.new_sound.arguments (Contains-at new.nodes w.0 w.1 w.3)));
    numbered = numbered (length c.slots) plan.create;
    sources = λ m h k e.
        let w = makes_listed m h in
        let s = source_is m w.0 k w.6 e in
        let kinds = ready.moves.one_kind s.0 s.1 in
        let gone = ready.moves.removed s.0 s.1 in
        let source : kinds.source ≡ s.3.made.node = same_Some kinds.source s.3.made.node (sym kinds.there ∙ s.3.stands) in
        let goal_ : kinds.target ≡ w.1 = same_Some kinds.target w.1 (sym kinds.here ∙ ap (slice_get new.nodes) s.2 ∙ w.3) in
        record {
          removed = in_contains (work old new plan c).removes k (removes_gone k s.0.old s.3 gone);
          made = s.3.made;
          there = s.3.there;
          kind = same_kind s.3.made.node m.node (sym (ap (λ (x : Node). x.kind) source) ∙ kinds.same_kind ∙ ap (λ (x : Node). x.kind) goal_ ∙ sym (ap (λ (x : Node). x.kind) w.4));
        };
    other_sources = apart_pairs OtherSource (work old new plan c).makes (makes_apart OtherSource Differ (λ i j m n other m_is n_is m_from n_from k em en.
        let s = source_is m i k m_from em in
        let t = source_is n j k n_from en in
        let same = one_path old.nodes ready.old_graph.paths_rise s.0.old t.0.old s.3.made.node t.3.made.node s.3.stands t.3.stands (ap (λ (x : Slot). x.node.path) (same_Some s.3.made t.3.made (sym s.3.there ∙ t.3.there))) in
        other (sym t.2 ∙ sym (ready.moves.one_source s.0 t.0 s.1 t.1 same) ∙ s.2)) (length c.slots) plan.create create_apart);
    room_nodes = omega (arith, ready.room_nodes, makes_long (length c.slots) plan.create);
    room_ports = ready.room_ports;
  }
    where
      makes_listed : (m : NewNode) → Contains (work old new plan c).makes m → (j : ℕ) × (node : Node) × In plan.create j × (slice_get new.nodes j ≡ Some node) × (m.node ≡ node) × (¬ Contains old.nodes node) × (m.from ≡ source_of old plan c j)
      makes_listed m there = makes_are m (contains_in (work old new plan c).makes m there)

      apart_paths : (k : ℕ) (js : List ℕ) → ((j : ℕ) → In js j → Contains plan.create j) → Apart Differ js → Apart OtherPath (makes_from old new plan c k js)
      apart_paths k [] all h = tt
      apart_paths k (j ∷ js) all h = (
        λ n i same.
            (let w = made_of (k + 1) js n i in
            let a = create_gone j (all j (inl refl)) in
            let b = create_gone w.place (all w.place (inr w.listed)) in
            h.0 w.place w.listed (sym (one_path new.nodes ready.new_graph.paths_rise j w.place a.node b.node a.here b.here
            (sym (ap (λ (x : Node). x.path) (node_is new j a.node a.here)) ∙ sym same ∙ ap (λ (x : Node). x.path) (w.node_is ∙ node_is new w.place b.node b.here))))),
        apart_paths (k + 1) js (λ i m. all i (inr m)) h.1,
      )
