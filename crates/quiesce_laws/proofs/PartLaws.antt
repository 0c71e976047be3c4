-- At each place of a commit the graph is a part of the old or of the new.
use Rattle.std.proofs.Common.{◌≡◌, ◌∙◌, ℕ, List, Some, refl, sym, ap, subst, inl, inr, ⊎_elim, Contains}
use Rattle.std.specs.Prelude.{◌⊎◌}
use Rattle.std.proofs.lemmas.Option.{same_Some}
use Rattle.config_graph.specs.Graph.{Graph}
use Rattle.config_graph.specs.declared.node.Node.{Node}
use Rattle.config_graph.specs.declared.node.Target.{Target}
use Rattle.quiesce_core.specs.declared.state.Slot.{Slot}
use Rattle.quiesce_core.specs.Live.{IsLiveAt, StandsAt}
use Rattle.quiesce_core.specs.State.{Configuration, owner, slot, target}
use Rattle.base.proofs.ContainsLaws.{Contains-at}
use Rattle.quiesce_laws.specs.Fitting.{Fits, IsPart, KeptLink}
use Rattle.quiesce_laws.specs.Lists.{In}
use Rattle.quiesce_laws.specs.Work.{NewLink, NewNode, Work}
use Rattle.quiesce_laws.proofs.BetweenLaws.{Between}
use Rattle.quiesce_core.proofs.ConfigurationLaws.{linked_made}
use Rattle.quiesce_laws.proofs.CarryingLaws.{InPhases}
use Rattle.quiesce_laws.proofs.LinkingLemmas.{Linking}
use Rattle.quiesce_laws.proofs.MakingLaws.{Making}
use Rattle.quiesce_laws.proofs.RemovingLemmas.{Removing}
use Rattle.quiesce_laws.proofs.UnlinkingLemmas.{Unlinking}

-- a link of c that fits a graph fits it in d too, where its two nodes are still live
pub fits_in : (c d : Configuration) (Touched : ℕ → Type 0) → Between c Touched d → (g : Graph) (p : ℕ) (t : Target) → target c p ≡ Some t
    → ((n i : ℕ) → StandsAt c g.nodes n i → (n ≡ owner c p) ⊎ (n ≡ t.node) → StandsAt d g.nodes n i) → Fits c g p t → Fits d g p t
fits_in c d Touched b g p t leads still f =
    let made = linked_made c p t leads in
    record {
      i = f.i;
      r = f.r;
      j = f.j;
      x = f.x;
      stands = record {
        from_there = subst (λ n. StandsAt d g.nodes n f.i) (sym (b.owners p made)) (still (owner c p) f.i f.stands.from_there (inl refl));
        requirement = b.requirements p made ∙ f.stands.requirement;
        to_there = still t.node f.j f.stands.to_there (inr refl);
        provision = f.stands.provision;
      };
      linked = f.linked;
    }

live_stands : (c d : Configuration) (g : Graph) (n i : ℕ) → StandsAt c g.nodes n i → ((node : Node) → IsLiveAt c n node → IsLiveAt d n node) → StandsAt d g.nodes n i
live_stands c d g n i s still =
    let l = still s.made.node (record { made = s.made; there = s.there; live = s.live; is_node = refl }) in
    record { made = l.made; there = l.there; live = l.live; stands = s.stands ∙ ap Some (sym l.is_node) }

-- what is so of each phase, where c lies in the old graph
module _ (c : Configuration) (old new : Graph) (Touched : ℕ → Type 0) (w : Work) (part : IsPart c old) where
  abbrev IsPartOfOne : Configuration → Type 0
  IsPartOfOne d = IsPart d old ⊎ IsPart d new

  unlinked_part : (d : Configuration) (left : List ℕ) → Unlinking c new Touched d left → IsPartOfOne d
  unlinked_part d left h =
      inl (record {
        nodes = λ n node l. part.nodes n node (record { made = l.made; there = sym (ap (λ s. slot (record { slots = s; gates = d.gates }) n) h.slots_stay) ∙ l.there; live = l.live; is_node = l.is_node });
        links = λ p t e.
            let was : target c p ≡ Some t = ⊎_elim (λ (i : In left p). sym (h.unlinks p i).1 ∙ e) (λ (k : KeptLink c new p t). k.leads) (h.rest p t e) in
            fits_in c d Touched h.between old p t was
            (λ n i s w. record { made = s.made; there = ap (λ s. slot (record { slots = s; gates = d.gates }) n) h.slots_stay ∙ s.there; live = s.live; stands = s.stands }) (part.links p t was);
      })

  removed_part : (all : List ℕ) (d : Configuration) (left : List ℕ) → Removing c new Touched all d left → IsPartOfOne d
  removed_part all d left h =
      inl (record {
        nodes = λ n node l. part.nodes n node (h.nodes n node l).0;
        links = λ p t e.
            let k = h.links p t e in
            let f = k.fits.stands in
            let still : (n j : ℕ) → StandsAt c new.nodes n j → (node : Node) → IsLiveAt c n node → IsLiveAt d n node =
            λ n j s node l. h.stays n node l (subst (Contains new.nodes) (ap (λ (x : Slot). x.node) (same_Some s.made l.made (sym s.there ∙ l.there)) ∙ l.is_node) (Contains-at new.nodes j s.made.node s.stands)) in
            fits_in c d Touched h.between old p t k.leads
            (λ n i s w. live_stands c d old n i s (λ node l. ⊎_elim
            (λ (o : n ≡ owner c p). still n k.fits.i (subst (λ q. StandsAt c new.nodes q k.fits.i) (sym o) f.from_there) node l)
            (λ (o : n ≡ t.node). still n k.fits.j (subst (λ q. StandsAt c new.nodes q k.fits.j) (sym o) f.to_there) node l) w)) (part.links p t k.leads);
      })

  made_part : (d : Configuration) (left : List NewNode) → Making c new Touched d left → IsPartOfOne d
  made_part d left h =
      inr (record {
        nodes = λ n node l. (h.nodes n node l).0;
        links = λ p t e.
            let k = h.links p t e in
            fits_in c d Touched h.between new p t k.leads
            (λ n i s w. live_stands c d new n i s (λ node l. h.stays n node l (subst (Contains new.nodes) (ap (λ (x : Slot). x.node) (same_Some s.made l.made (sym s.there ∙ l.there)) ∙ l.is_node) (Contains-at new.nodes i s.made.node s.stands)))) k.fits;
      })

  linked_part : (d : Configuration) (left : List NewLink) → Linking c new Touched d left → IsPartOfOne d
  linked_part d left h = inr (record {
    nodes = λ n node l. (h.nodes node).1 (n, l);
    links = h.part;
  })

  pub part_of_one : InPhases (λ d. IsPart d old ⊎ IsPart d new) c new Touched w
  part_of_one = record { unlinking = unlinked_part; removing = removed_part w.removes; making = made_part; linking = linked_part }
