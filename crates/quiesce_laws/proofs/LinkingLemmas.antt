-- The fourth phase of a commit: links of the new graph are made, until all are there.
use Rattle.std.proofs.Common.{◌≡◌, ℕ, ◌<◌, Bool, true, false, not, List, [], ◌∷◌, length, length-set, Option, Some, refl, sym, ap, ◌∙◌, subst, inl, inr, ⊎_elim, arith, Contains, lt-ltb}
use Rattle.std.specs.Prelude.{◌⊎◌, ◌↔◌, nat_lt, is_some}
use Rattle.std.proofs.lemmas.Bool.{and_from}
use Rattle.config_graph.specs.Cycles.{IsLinked}
use Rattle.config_graph.specs.Graph.{Graph}
use Rattle.config_graph.specs.Sound.{Sound}
use Rattle.config_graph.specs.declared.node.Node.{Node}
use Rattle.config_graph.specs.declared.node.Target.{Target}
use Rattle.quiesce_core.specs.declared.state.Gate.{Gate}
use Rattle.quiesce_core.specs.declared.state.Slot.{Slot}
use Rattle.quiesce_core.specs.Effect.{with_target}
use Rattle.quiesce_core.specs.Live.{IsGraphOf, IsLiveNode, StandsAt}
use Rattle.quiesce_laws.specs.Fitting.{Fits, KeptLink, LinksFit, Stands}
use Rattle.quiesce_core.specs.Reach.{has_no_cycle}
use Rattle.quiesce_core.specs.State.{Configuration, gate, is_live, owner, provides, slot, target}
use Rattle.base.proofs.OptionLaws.{map_or_at}
use Rattle.quiesce_core.proofs.LiveLinkLaws.{IsLiveLink, linked_at}
use Rattle.quiesce_core.proofs.SoundnessLaws.{put_here, put_owner, put_require}
use Rattle.quiesce_core.proofs.ReachLaws.{owner_of}
use Rattle.quiesce_laws.specs.Lists.{Apart, In}
use Rattle.quiesce_laws.specs.Steps.{MayStep}
use Rattle.quiesce_laws.specs.Work.{NewLink, link_new, end_of}
use Rattle.quiesce_laws.proofs.AcyclicLaws.{no_cycle, one_place}
use Rattle.quiesce_laws.proofs.BetweenLaws.{Between, Ground, between_link, is_noted}
use Rattle.quiesce_laws.proofs.UnlinkingLemmas.{target_beside, target_put}
use Rattle.quiesce_laws.specs.Commits.{Changed, IsToLink, OtherPort}

-- the live nodes are those of the new graph, all links are links of it, and these are left to be made
pub record Linking (c : Configuration) (new : Graph) (Touched : ℕ → Type 0) (d : Configuration) (left : List NewLink) : Type 0 where
  pub between : Between c Touched d
  pub nodes : (node : Node) → Contains new.nodes node ↔ IsLiveNode d node
  pub part : LinksFit d new
  pub whole : (i r j x : ℕ) → IsLinked new i r j x → IsLiveLink d new.nodes i r j x ⊎ ((l : NewLink) × In left l × Stands d new l.port (end_of l) i r j x)
  pub to_link : (l : NewLink) → In left l → IsToLink c new Touched d l
  pub apart : Apart OtherPort left
  pub kept : (p : ℕ) (t : Target) → KeptLink c new p t → target d p ≡ Some t

stands_live : (d : Configuration) (nodes : List Node) (n i : ℕ) → StandsAt d nodes n i → is_live d n ≡ true
stands_live d nodes n i s = map_or_at (λ (m : Slot). m.live) (slot d n) false s.made s.there ∙ s.live

-- a link more changes nothing else
module _ (d : Configuration) (p : ℕ) (o : Option Target) (made : p < length d.gates) where
  new_gate : Gate
  new_gate = record (gate d p) { target = o }

  stands_still : (nodes : List Node) (n i : ℕ) → StandsAt d nodes n i → StandsAt (with_target d p o) nodes n i
  stands_still nodes n i s = record { made = s.made; there = s.there; live = s.live; stands = s.stands }

  stood : (nodes : List Node) (n i : ℕ) → StandsAt (with_target d p o) nodes n i → StandsAt d nodes n i
  stood nodes n i s = record { made = s.made; there = s.there; live = s.live; stands = s.stands }

  owner_still : (q : ℕ) → owner (with_target d p o) q ≡ owner d q
  owner_still q = put_owner d p (record (gate d p) { target = o }) made refl refl q

  pub links_still : (g : Graph) (q : ℕ) (t : Target) (i r j x : ℕ) → Stands d g q t i r j x → Stands (with_target d p o) g q t i r j x
  links_still g q t i r j x s = record {
    from_there = subst (λ k. StandsAt (with_target d p o) g.nodes k i) (sym (owner_still q)) (stands_still g.nodes (owner d q) i s.from_there);
    requirement = put_require d p (record (gate d p) { target = o }) made refl refl q ∙ s.requirement;
    to_there = stands_still g.nodes t.node j s.to_there;
    provision = s.provision;
  }

  pub fits_still : (g : Graph) (q : ℕ) (t : Target) → Fits d g q t → Fits (with_target d p o) g q t
  fits_still g q t f = record { i = f.i; r = f.r; j = f.j; x = f.x; stands = links_still g q t f.i f.r f.j f.x f.stands; linked = f.linked }

module _ (c : Configuration) (new : Graph) (sound : Sound new) (Touched : ℕ → Type 0) (noted : ℕ → Bool) (ground : Ground c Touched noted) where
  module _ (d : Configuration) (l : NewLink) (left : List NewLink) (h : Linking c new Touched d (l ∷ left)) where
    this : IsToLink c new Touched d l
    this = h.to_link l (inl refl)

    fits_then : LinksFit (with_target d l.port (Some (end_of l))) new
    fits_then q t e =
        let this = h.to_link l (inl refl) in
        ⊎_elim
        (λ (w : (q ≡ l.port) × (Some (end_of l) ≡ Some t)).
        let one : end_of l ≡ t = cc (w.1) in
        fits_still d l.port (Some (end_of l)) this.made new q t (subst (λ i. Fits d new i t) (sym w.0) (subst (λ u. Fits d new l.port u) one this.fits)))
        (λ (w : (q ≡ l.port → ⊥) × (target d q ≡ Some t)). fits_still d l.port (Some (end_of l)) this.made new q t (h.part q t w.1))
        (target_put d l.port (Some (end_of l)) this.made q t e)

    acyclic : has_no_cycle (with_target d l.port (Some (end_of l))) ≡ true
    acyclic =
        let this = h.to_link l (inl refl) in
        no_cycle (with_target d l.port (Some (end_of l))) new sound.paths_rise sound.no_cycle
        (λ n p o. owner_still d l.port (Some (end_of l)) this.made p ∙ owner_of d h.between.sound_now n p (record { node = o.node; made = o.made; from = o.from; below = o.below }))
        fits_then

    pub link_may : MayStep noted d (link_new l)
    link_may =
        let this = h.to_link l (inl refl) in
        let live = stands_live d new.nodes (owner d l.port) this.fits.i this.fits.stands.from_there in
        record {
          live = and_from (nat_lt l.port (length d.gates)) (is_live d (owner d l.port)) (lt-ltb l.port (length d.gates) this.made) live;
          unlinked = ap (λ o. not (is_some o)) this.unlinked;
          provision = and_from (is_live d l.node) (nat_lt l.provide (provides d l.node)) this.leads.live (lt-ltb l.provide (provides d l.node) this.leads.provided);
          settled = is_noted c Touched noted ground d h.between (owner d l.port) this.changed live;
          no_cycle = acyclic;
        }

    pub link_next : Linking c new Touched (with_target d l.port (Some (end_of l))) left
    link_next =
        let this = h.to_link l (inl refl) in
        let d' = with_target d l.port (Some (end_of l)) in
        record {
          between = between_link c Touched noted ground d h.between l.port (end_of l) this.made this.changed this.leads acyclic;
          nodes = λ node. (
            (λ i. let w = (h.nodes node).0 i in (w.0, record { made = w.1.made; there = w.1.there; live = w.1.live; is_node = w.1.is_node })),
            λ w. (h.nodes node).1 ((w.0, record { made = w.1.made; there = w.1.there; live = w.1.live; is_node = w.1.is_node })),
          );
          part = fits_then;
          whole = λ i r j x e. ⊎_elim
              (λ (w : IsLiveLink d new.nodes i r j x). inl (old_link i r j x w))
              (λ (w : (k : NewLink) × In (l ∷ left) k × Stands d new k.port (end_of k) i r j x). ⊎_elim
              (λ (one : l ≡ w.0). inl (new_link i r j x (subst (λ (k : NewLink). Stands d new k.port (end_of k) i r j x) (sym one) w.2)))
              (λ (k : In left w.0). inr (w.0, k, links_still d l.port (Some (end_of l)) this.made new w.0.port (end_of w.0) i r j x w.2))
              w.1)
              (h.whole i r j x e);
          to_link = λ k i.
              let was = h.to_link k (inr i) in
              let own = owner_still d l.port (Some (end_of l)) this.made k.port in
              record {
                made = omega (arith, was.made, length-set d.gates l.port (record (gate d l.port) { target = Some (end_of l) }));
                changed = subst (Changed c Touched) (sym own) was.changed;
                unlinked = target_beside d l.port (Some (end_of l)) this.made k.port (h.apart.0 k i) ∙ was.unlinked;
                fits = fits_still d l.port (Some (end_of l)) this.made new k.port (end_of k) was.fits;
                leads = record { live = was.leads.live; provided = was.leads.provided };
              };
          apart = h.apart.1;
          kept = λ p t k. target_beside d l.port (Some (end_of l)) this.made p
              (λ same. let some_ = sym (ap (target d) same) ∙ h.kept p t k in let none_ = this.unlinked in absurd (cc (none_, some_))) ∙ h.kept p t k;
        }
      where
        old_link : (i r j x : ℕ) → IsLiveLink d new.nodes i r j x → IsLiveLink (with_target d l.port (Some (end_of l))) new.nodes i r j x
        old_link i r j x w =
            let this = h.to_link l (inl refl) in
            let s = links_still d l.port (Some (end_of l)) this.made new w.port (record { node = w.to; provide = x }) i r j x
            (record { from_there = w.from_there; requirement = w.requirement; to_there = w.to_there; provision = refl }) in
            record {
              port = w.port;
              to = w.to;
              leads = target_beside d l.port (Some (end_of l)) this.made w.port
                  (λ same. let none_ = this.unlinked in let some_ = sym (ap (target d) same) ∙ w.leads in absurd (cc (none_, some_))) ∙ w.leads;
              requirement = s.requirement;
              from_there = s.from_there;
              to_there = s.to_there;
            }

        new_link : (i r j x : ℕ) → Stands d new l.port (end_of l) i r j x → IsLiveLink (with_target d l.port (Some (end_of l))) new.nodes i r j x
        new_link i r j x st =
            let this = h.to_link l (inl refl) in
            let s = links_still d l.port (Some (end_of l)) this.made new l.port (end_of l) i r j x st in
            record {
              port = l.port;
              to = l.node;
              leads = ap (λ (g : Gate). g.target) (put_here d l.port (record (gate d l.port) { target = Some (end_of l) }) this.made refl refl) ∙ ap (λ y. Some (record { node = l.node; provide = y })) s.provision;
              requirement = s.requirement;
              from_there = s.from_there;
              to_there = s.to_there;
            }

  -- when no link is left, the graph is the new one
  pub graph_is : (d : Configuration) → Linking c new Touched d [] → IsGraphOf d new
  graph_is d h = record {
    paths_rise = sound.paths_rise;
    nodes_are = h.nodes;
    links_are = λ i r j x. (
      (λ e. (linked_at d new.nodes i r j x).0
          (⊎_elim (λ (w : IsLiveLink d new.nodes i r j x). w) (λ (w : (l : NewLink) × In [] l × Stands d new l.port (end_of l) i r j x). absurd w.1) (h.whole i r j x e))),
      λ w. linked_in i r j x ((linked_at d new.nodes i r j x).1 w),
    );
    in_order = sound.in_order;
  }
    where
      linked_in : (i r j x : ℕ) → IsLiveLink d new.nodes i r j x → IsLinked new i r j x
      linked_in i r j x w =
          let f = h.part w.port (record { node = w.to; provide = x }) w.leads in
          let at_i = one_place d new.nodes sound.paths_rise (owner d w.port) f.i i f.stands.from_there w.from_there in
          let at_j = one_place d new.nodes sound.paths_rise w.to f.j j f.stands.to_there w.to_there in
          subst (λ k. IsLinked new k r j x) at_i (subst (λ k. IsLinked new f.i k j x) (sym f.stands.requirement ∙ w.requirement)
          (subst (λ k. IsLinked new f.i f.r k x) at_j (subst (λ k. IsLinked new f.i f.r f.j k) (sym f.stands.provision) f.linked)))
