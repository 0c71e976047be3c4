-- A whole commit, phase by phase.
use Rattle.std.proofs.Common.{◌≡◌, ℕ, Bool, true, false, not, ◌&&◌, List, [], ◌∷◌, ◌++◌, map, length, length-set, set, Option, Some, None, refl, sym, ap, ◌∙◌, subst, inl, inr, ⊎_elim, arith, Contains}
use Rattle.std.specs.Prelude.{◌==◌}
use Rattle.std.specs.Option.{option_map_or}
use Rattle.std.proofs.lemmas.Bool.{and_from, both_ways, eqb-true, not_from_false, false_from_ne_true}
use Rattle.std.proofs.lemmas.Option.{same_Some, slice_get_within}
use Rattle.config_graph.specs.Graph.{Graph}
use Rattle.config_graph.specs.GraphBy.{AreLinkedAt}
use Rattle.config_graph.specs.Sound.{Sound}
use Rattle.config_graph.specs.declared.node.Node.{Node}
use Rattle.config_graph.specs.declared.node.Target.{Target}
use Rattle.quiesce_core.specs.declared.event.Event.{Event}
use Rattle.quiesce_core.specs.declared.event.Event.TheVariants as event
use Rattle.quiesce_core.specs.declared.state.Slot.{Slot}
use Rattle.quiesce_core.specs.Live.{AreLinked, IsGraphOf, IsLiveAt, StandsAt}
use Rattle.base.proofs.PlaceLaws.{slice_get-there, any_there}
use Rattle.quiesce_laws.specs.Fitting.{Fits, KeptLink, PathsApart, Stands}
use Rattle.quiesce_core.specs.Rules.{can_move, is_kind, was_moved}
use Rattle.quiesce_core.specs.State.{Configuration, gate, is_live, owner, slot, target}
use Rattle.base.proofs.OptionLaws.{map_or_at, map_or_true}
use Rattle.base.proofs.ContainsLaws.{Contains-at}
use Rattle.quiesce_laws.specs.Lists.{In}
use Rattle.quiesce_laws.specs.Steps.{MayStepAll, change_all}
use Rattle.quiesce_core.specs.Effect.{change_next}
use Rattle.quiesce_laws.specs.Work.{AreNumbered, NewLink, NewNode, Work, end_of, link_new, make_new, work_of}
use Rattle.quiesce_laws.proofs.BetweenLaws.{Ground, between_start}
use Rattle.quiesce_core.proofs.ConfigurationLaws.{linked_made}
use Rattle.quiesce_core.proofs.LiveLinkLaws.{linked_at}
use Rattle.quiesce_laws.proofs.LinkingLemmas.{Linking, graph_is, link_may, link_next}
use Rattle.quiesce_laws.proofs.MakingLaws.{Making, make_may, make_next}
use Rattle.quiesce_laws.proofs.MemberLaws.{contains_in, in_contains, pairs_apart}
use Rattle.quiesce_laws.proofs.PhaseLemmas.{EachConfig, each_then, may_then, phase_each, phase_ends, phase_may}
use Rattle.quiesce_laws.proofs.RemovingLemmas.{Removing, live_is, remove_may, remove_next}
use Rattle.quiesce_laws.proofs.UnlinkingLemmas.{Unlinking, unlink_may, unlink_next}
use Rattle.quiesce_laws.specs.Commits.{AreLinks, Differ, IsSource, IsWork, OtherPath, OtherPort, OtherSource}

-- only what was removed has gone over to another node
abbrev pub SourcesAreGone : Configuration → Type 0
SourcesAreGone c = (n k : ℕ) (m : Slot) → slot c n ≡ Some m → m.from ≡ Some k → is_live c k ≡ false

pub after_both : (d : Configuration) (es fs : List Event) → change_all d (es ++ fs) ≡ change_all (change_all d es) fs
after_both d [] fs = refl
after_both d (e ∷ es) fs = after_both (change_next d e) es fs

module _ (c : Configuration) (new : Graph) (sound : Sound new) (Touched : ℕ → Type 0) (noted : ℕ → Bool) (ground : Ground c Touched noted)
    (owners_live : (p : ℕ) (t : Target) → target c p ≡ Some t → is_live c (owner c p) ≡ true) (gone : SourcesAreGone c) (named : PathsApart c) (w : Work) (is : IsWork c new Touched w) where
  unlinking : Unlinking c new Touched c w.unlinks
  unlinking = record {
    between = between_start c Touched noted ground;
    slots_stay = refl;
    unlinks = λ p i. (is.unlinks p (in_contains w.unlinks p i), refl);
    apart = pairs_apart Differ w.unlinks is.unlinks_apart;
    kept = λ p t k. k.leads;
    rest = λ p t e. ⊎_elim (λ (i : Contains w.unlinks p). inl (contains_in w.unlinks p i)) inr (is.all_unlinks p t e);
  }

  same_live : (d : Configuration) → d.slots ≡ c.slots → (n : ℕ) (node : Node) → IsLiveAt d n node → IsLiveAt c n node
  same_live d e n node l = record { made = l.made; there = sym (ap (λ s. slot (record { slots = s; gates = d.gates }) n) e) ∙ l.there; live = l.live; is_node = l.is_node }

  live_same : (d : Configuration) → d.slots ≡ c.slots → (n : ℕ) (node : Node) → IsLiveAt c n node → IsLiveAt d n node
  live_same d e n node l = record { made = l.made; there = ap (λ s. slot (record { slots = s; gates = d.gates }) n) e ∙ l.there; live = l.live; is_node = l.is_node }

  removing : (d : Configuration) → Unlinking c new Touched d [] → Removing c new Touched w.removes d w.removes
  removing d h = record {
    between = h.between;
    links = λ p t e. ⊎_elim (λ (i : In [] p). absurd i) (λ (k : KeptLink c new p t). k) (h.rest p t e);
    kept = h.kept;
    nodes = λ n node l. let l' = same_live d h.slots_stay n node l in
        (l', ⊎_elim (λ (i : Contains w.removes n). inl (contains_in w.removes n i)) inr (is.all_removes n node l'));
    stays = λ n node l i. live_same d h.slots_stay n node l;
    to_remove = λ n i. (is.removes n (in_contains w.removes n i), λ node l. live_same d h.slots_stay n node l);
    dead = λ n i. inl i;
    apart = pairs_apart Differ w.removes is.removes_apart;
  }

  -- sources can be moved once they are removed
  movable : (d : Configuration) → Removing c new Touched w.removes d [] → (slots_are : (n : ℕ) (m : Slot) → slot d n ≡ Some m → (u : Slot) × (slot c n ≡ Some u) × (u.from ≡ m.from))
      → (m : NewNode) (k : ℕ) → IsSource c w.removes m k → can_move d k m.node.kind ≡ true
  movable d h slots_are m k s =
      let kept = h.between.slots k s.made s.there in
      let dead : is_live d k ≡ false = ⊎_elim (λ (i : In [] k). absurd i) (λ (f : is_live d k ≡ false). f) (h.dead k (contains_in w.removes k s.removed)) in
      let not_live : kept.now.live ≡ false = sym (map_or_at (λ (x : Slot). x.live) (slot d k) false kept.now kept.found) ∙ dead in
      and_from (option_map_or (λ (x : Slot). not x.live && is_kind x.node.kind m.node.kind) (slot d k) false) (not (was_moved d k))
      (map_or_at (λ (x : Slot). not x.live && is_kind x.node.kind m.node.kind) (slot d k) false kept.now kept.found
      ∙ and_from (not kept.now.live) (is_kind kept.now.node.kind m.node.kind) (not_from_false kept.now.live not_live) (ap (λ (n : Node). is_kind n.kind m.node.kind) kept.node ∙ s.kind))
      (not_from_false (was_moved d k) (false_from_ne_true (was_moved d k) (λ moved.
      let at = any_there (λ (x : Slot). option_map_or (λ f. f == k) x.from false) d.slots moved in
      let f = map_or_true (λ f. f == k) at.1.from at.3 in
      let was = slots_are at.0 at.1 at.2 in
      let go = is.removes k s.removed in
      both_ways (is_live c k) (gone at.0 k was.0 was.1 (was.2 ∙ f.1 ∙ ap Some (eqb-true f.0 k f.2))) (live_is c k go.node go.live))))

  making : (d : Configuration) → length d.slots ≡ length c.slots → length d.gates ≡ length c.gates → Removing c new Touched w.removes d [] → Making c new Touched d w.makes
  making d slots_long gates_long h = record {
    between = h.between;
    links = h.links;
    kept = h.kept;
    nodes = λ n node l.
        let old = h.nodes n node l in
        let there = ⊎_elim (λ (i : In [] n). absurd i) (λ (s : Contains new.nodes node). s) old.1 in
        (there, λ m i same. (is.makes m (in_contains w.makes m i)).1 n node old.0 there same);
    stays = h.stays;
    all = λ node i. ⊎_elim
        (λ (l : (n : ℕ) × IsLiveAt c n node). inl (l.0, h.stays l.0 node l.1 i))
        (λ (m : (m : NewNode) × Contains w.makes m × (m.node ≡ node)). inr (m.0, contains_in w.makes m.0 m.1, m.2))
        (is.all_makes node i);
    to_make = λ m i. let there = in_contains w.makes m i in ((is.makes m there).0, is.arguments m there);
    numbered = subst (λ k. AreNumbered k w.makes) (sym slots_long) is.numbered;
    apart = pairs_apart OtherPath w.makes is.makes_apart;
    sources = λ m i k e. movable d h slots_are m k (is.sources m (in_contains w.makes m i) k e);
    other_sources = pairs_apart OtherSource w.makes is.other_sources;
    room_nodes = omega (arith, slots_long, is.room_nodes);
    room_ports = omega (arith, gates_long, is.room_ports);
    more_slots = omega (arith, slots_long);
    old_live = λ n node l below. (h.nodes n node l).0;
    named = λ n k a b la lb same. named n k a b (h.nodes n a la).0 (h.nodes k b lb).0 same;
  }
    where
      slots_are : (n : ℕ) (m : Slot) → slot d n ≡ Some m → (u : Slot) × (slot c n ≡ Some u) × (u.from ≡ m.from)
      slots_are n m e =
          let u = slice_get-there c.slots n (omega (arith, slots_long, slice_get_within d.slots n m e)) in
          let kept = h.between.slots n u.0 u.1 in
          (u.0, u.1, sym kept.from ∙ ap (λ (s : Slot). s.from) (same_Some kept.now m (sym kept.found ∙ e)))

  linking : (d : Configuration) (links : List NewLink) → AreLinks c new Touched d links → Making c new Touched d [] → Linking c new Touched d links
  linking d links are h = record {
    between = h.between;
    nodes = λ node. (
      (λ i. ⊎_elim (λ (l : (n : ℕ) × IsLiveAt d n node). l)
          (λ (m : (m : NewNode) × In [] m × (m.node ≡ node)). absurd m.1) (h.all node i)),
      λ l. (h.nodes l.0 node l.1).0,
    );
    part = λ p t e. fits_now p t (h.links p t e);
    whole = λ i r j x e. ⊎_elim (λ (w : AreLinkedAt (AreLinked d) new.nodes i r j x). inl ((linked_at d new.nodes i r j x).1 w))
        (λ (l : (l : NewLink) × Contains links l × Stands d new l.port (end_of l) i r j x). inr (l.0, contains_in links l.0 l.1, l.2)) (are.all_links i r j x e);
    to_link = λ l i. are.to_link l (in_contains links l i);
    apart = pairs_apart OtherPort links are.links_apart;
    kept = h.kept;
  }
    where
      stands_now : (n i : ℕ) → StandsAt c new.nodes n i → StandsAt d new.nodes n i
      stands_now n i s =
          let l = h.stays n s.made.node (record { made = s.made; there = s.there; live = s.live; is_node = refl }) (Contains-at new.nodes i s.made.node s.stands) in
          record { made = l.made; there = l.there; live = l.live; stands = s.stands ∙ ap Some (sym l.is_node) }

      fits_now : (p : ℕ) (t : Target) → KeptLink c new p t → Fits d new p t
      fits_now p t k =
          let f = k.fits in
          let made = linked_made c p t k.leads in
          record {
            i = f.i;
            r = f.r;
            j = f.j;
            x = f.x;
            stands = record {
              from_there = subst (λ n. StandsAt d new.nodes n f.i) (sym (h.between.owners p made)) (stands_now (owner c p) f.i f.stands.from_there);
              requirement = h.between.requirements p made ∙ f.stands.requirement;
              to_there = stands_now t.node f.j f.stands.to_there;
              provision = f.stands.provision;
            };
            linked = f.linked;
          }

  c1 : Configuration
  c1 = change_all c (map event.Unlink w.unlinks)

  abbrev pub removed_down : Configuration
  removed_down = change_all (change_all c (map event.Unlink w.unlinks)) (map event.Remove w.removes)

  abbrev pub grown : Configuration
  grown = change_all (change_all (change_all c (map event.Unlink w.unlinks)) (map event.Remove w.removes)) (map make_new w.makes)

  unlinked_all : Unlinking c new Touched (change_all c (map event.Unlink w.unlinks)) []
  unlinked_all = phase_ends noted event.Unlink (Unlinking c new Touched) (unlink_may c new Touched noted ground owners_live) (unlink_next c new Touched noted ground owners_live) c w.unlinks unlinking

  slots_long1 : (d : Configuration) (ns : List ℕ) → length (change_all d (map event.Remove ns)).slots ≡ length d.slots
  slots_long1 d [] = refl
  slots_long1 d (n ∷ ns) = slots_long1 (change_next d (event.Remove n)) ns ∙ one (slot d n)
    where
      one : (o : Option Slot) → length (option_map_or (λ (m : Slot). set d.slots n (record m { live = false })) o d.slots) ≡ length d.slots
      one None = refl
      one (Some m) = length-set d.slots n (record m { live = false })

  gates_long1 : (d : Configuration) (ns : List ℕ) → length (change_all d (map event.Remove ns)).gates ≡ length d.gates
  gates_long1 d [] = refl
  gates_long1 d (n ∷ ns) = gates_long1 (change_next d (event.Remove n)) ns

  gates_long2 : (d : Configuration) (ps : List ℕ) → length (change_all d (map event.Unlink ps)).gates ≡ length d.gates
  gates_long2 d [] = refl
  gates_long2 d (p ∷ ps) = gates_long2 (change_next d (event.Unlink p)) ps ∙ length-set d.gates p (record (gate d p) { target = None })

  removed_all : Removing c new Touched w.removes removed_down []
  removed_all = phase_ends noted event.Remove (Removing c new Touched w.removes) (remove_may c new Touched noted ground w.removes) (remove_next c new Touched noted ground w.removes)
      (change_all c (map event.Unlink w.unlinks)) w.removes (removing (change_all c (map event.Unlink w.unlinks)) unlinked_all)

  start_making : Making c new Touched removed_down w.makes
  start_making = making removed_down
      (slots_long1 (change_all c (map event.Unlink w.unlinks)) w.removes ∙ ap (λ (s : List Slot). length s) unlinked_all.slots_stay)
      (gates_long1 (change_all c (map event.Unlink w.unlinks)) w.removes ∙ gates_long2 c w.unlinks) removed_all

  -- the nodes are those of the new graph, and no link is one that it hasn't
  pub all_made : Making c new Touched grown []
  all_made = phase_ends noted make_new (Making c new Touched) (make_may c new Touched noted ground) (make_next c new Touched noted ground) removed_down w.makes start_making

  -- each step up to the links may be made
  pub work_may : MayStepAll noted c (work_of w)
  work_may = may_then noted c (map event.Unlink w.unlinks) (map event.Remove w.removes ++ map make_new w.makes)
      (phase_may noted event.Unlink (Unlinking c new Touched) (unlink_may c new Touched noted ground owners_live) (unlink_next c new Touched noted ground owners_live) c w.unlinks unlinking)
      (may_then noted (change_all c (map event.Unlink w.unlinks)) (map event.Remove w.removes) (map make_new w.makes)
      (phase_may noted event.Remove (Removing c new Touched w.removes) (remove_may c new Touched noted ground w.removes) (remove_next c new Touched noted ground w.removes)
      (change_all c (map event.Unlink w.unlinks)) w.removes (removing (change_all c (map event.Unlink w.unlinks)) unlinked_all))
      (phase_may noted make_new (Making c new Touched) (make_may c new Touched noted ground) (make_next c new Touched noted ground) removed_down w.makes start_making))

  -- at each place up to the links
  pub work_each : (P : Configuration → Type 0) → ((d : Configuration) (xs : List ℕ) → Unlinking c new Touched d xs → P d) → ((d : Configuration) (xs : List ℕ) → Removing c new Touched w.removes d xs → P d)
      → ((d : Configuration) (xs : List NewNode) → Making c new Touched d xs → P d) → EachConfig P c (work_of w)
  work_each P a b g = each_then P c (map event.Unlink w.unlinks) (map event.Remove w.removes ++ map make_new w.makes)
      (phase_each noted event.Unlink (Unlinking c new Touched) (unlink_may c new Touched noted ground owners_live) (unlink_next c new Touched noted ground owners_live) P a c w.unlinks unlinking)
      (each_then P (change_all c (map event.Unlink w.unlinks)) (map event.Remove w.removes) (map make_new w.makes)
      (phase_each noted event.Remove (Removing c new Touched w.removes) (remove_may c new Touched noted ground w.removes) (remove_next c new Touched noted ground w.removes) P b
      (change_all c (map event.Unlink w.unlinks)) w.removes (removing (change_all c (map event.Unlink w.unlinks)) unlinked_all))
      (phase_each noted make_new (Making c new Touched) (make_may c new Touched noted ground) (make_next c new Touched noted ground) P g removed_down w.makes start_making))

  pub made_is : change_all c (work_of w) ≡ grown
  made_is = after_both c (map event.Unlink w.unlinks) (map event.Remove w.removes ++ map make_new w.makes) ∙ after_both (change_all c (map event.Unlink w.unlinks)) (map event.Remove w.removes) (map make_new w.makes)

  module _ (links : List NewLink) (are : AreLinks c new Touched (change_all c (work_of w)) links) where
    start_linking : Linking c new Touched (change_all c (work_of w)) links
    start_linking = linking (change_all c (work_of w)) links are (subst (λ d. Making c new Touched d []) (sym made_is) all_made)

    -- each step of the commit may be made after those before it
    pub commit_may : MayStepAll noted c (work_of w ++ map link_new links)
    commit_may = may_then noted c (work_of w) (map link_new links) work_may
        (phase_may noted link_new (Linking c new Touched) (link_may c new sound Touched noted ground) (link_next c new sound Touched noted ground) (change_all c (work_of w)) links start_linking)

    -- and after the last the graph is the new one
    pub commit_graph : IsGraphOf (change_all c (work_of w ++ map link_new links)) new
    commit_graph = subst (λ d. IsGraphOf d new) (sym (after_both c (work_of w) (map link_new links)))
        (graph_is c new sound Touched noted ground (change_all (change_all c (work_of w)) (map link_new links))
        (phase_ends noted link_new (Linking c new Touched) (link_may c new sound Touched noted ground) (link_next c new sound Touched noted ground) (change_all c (work_of w)) links start_linking))

    -- at each place of the commit
    pub commit_each : (P : Configuration → Type 0) → ((d : Configuration) (xs : List ℕ) → Unlinking c new Touched d xs → P d) → ((d : Configuration) (xs : List ℕ) → Removing c new Touched w.removes d xs → P d)
        → ((d : Configuration) (xs : List NewNode) → Making c new Touched d xs → P d) → ((d : Configuration) (xs : List NewLink) → Linking c new Touched d xs → P d) → EachConfig P c (work_of w ++ map link_new links)
    commit_each P a b g l = each_then P c (work_of w) (map link_new links) (work_each P a b g)
        (phase_each noted link_new (Linking c new Touched) (link_may c new sound Touched noted ground) (link_next c new sound Touched noted ground) P l (change_all c (work_of w)) links start_linking)
