-- A configuration while a change commits, and why what it changes is settled in it.
use Rattle.std.proofs.Common.{◌≡◌, ℕ, ◌+◌, ◌-◌, ◌<◌, ◌≤◌, Bool, true, false, length, Option, Some, None, refl, sym, ap, ◌∙◌, subst, set, inl, inr, ⊎_elim, arith}
use Rattle.std.specs.Prelude.{◌⊎◌}
use Rattle.std.proofs.Math.ListN.{length-set}
use Rattle.std.proofs.lemmas.Bool.{cases_lt, cases_eq}
use Rattle.std.proofs.lemmas.Option.{same_Some, slice_get_within}
use Rattle.config_graph.specs.declared.TheConstants.{MAX_NODES, MAX_PORTS}
use Rattle.config_graph.specs.Kinds.{row, depends_on}
use Rattle.config_graph.specs.declared.node.Node.{Node}
use Rattle.config_graph.specs.declared.node.Target.{Target}
use Rattle.quiesce_core.specs.declared.state.Gate.{Gate}
use Rattle.quiesce_core.specs.declared.state.Slot.{Slot}
use Rattle.quiesce_core.specs.Effect.{with_target, with_removed, with_gate, with_node}
use Rattle.quiesce_core.specs.Reach.{has_no_cycle, IsPortOf, wiring_of}
use Rattle.config_graph.specs.Wiring.{direct, Reach, through}
use Rattle.quiesce_core.specs.State.{Configuration, depends, gate, is_live, owner, slot, target}
use Rattle.quiesce_core.specs.WellFormed.{IsSound, LeadsToProvision}
use Rattle.quiesce_core.proofs.CycleLaws.{made_below}
use Rattle.base.proofs.OptionLaws.{map_or_at}
use Rattle.base.proofs.PlaceLaws.{slice_get-there}
use Rattle.quiesce_core.proofs.TableLaws.{live_made}
use Rattle.quiesce_core.proofs.SoundnessLaws.{here_gone, old_gate, old_slot, grown_length, new_gate, put_elsewhere, put_here, put_owner, put_require, slot_elsewhere, sound_linked, sound_made, sound_removed, sound_unlinked}
use Rattle.quiesce_core.proofs.ConfigurationLaws.{linked_made, removed_is}
use Rattle.quiesce_core.proofs.ReachLaws.{owner_of}
use Rattle.quiesce_laws.specs.Commits.{AreNoted, Changed}
use Rattle.quiesce_laws.specs.Steps.{IsNoted}

-- the node that was made in slot n is there still, live or not
pub record SlotKept (d : Configuration) (n : ℕ) (m : Slot) : Type 0 where
  pub now : Slot
  pub found : slot d n ≡ Some now
  pub node : now.node ≡ m.node
  pub first : now.first_port ≡ m.first_port
  pub from : now.from ≡ m.from

-- a port with a target was made before the node was
pub linked_before : (d : Configuration) (s : IsSound d) (node : Node) (from : Option ℕ) (few : length d.slots < MAX_NODES) (room : length d.gates + length (row node.kind).requires_ ≤ MAX_PORTS)
    → (q : ℕ) (t : Target) → target (with_node d node from) q ≡ Some t → q < length d.gates
linked_before d s node from few room q t e = ⊎_elim (λ (h : q < length d.gates). h)
    (λ (past : length d.gates ≤ q).
    let at : length d.gates + (q - length d.gates) ≡ q = omega arith in
    let none_ : target (with_node d node from) q ≡ None =
    sym (ap (λ i. target (with_node d node from) i) at)
    ∙ ap (λ (g : Gate). g.target) (new_gate d s node from few room (q - length d.gates) (omega (arith, linked_made (with_node d node from) q t e, grown_length d s node from few room))) in
    absurd (cc (none_, e)))
    (cases_lt q (length d.gates))

-- a sound configuration in which the ports are noted that touching these nodes needs
pub record Ground (c : Configuration) (Touched : ℕ → Type 0) (noted : ℕ → Bool) : Type 0 where
  pub sound : IsSound c
  pub are_noted : AreNoted c Touched noted

-- d came to be of c: nodes and ports are as they were, and links are old ones or begin at what is changed
pub record Between (c : Configuration) (Touched : ℕ → Type 0) (d : Configuration) : Type 0 where
  pub sound_now : IsSound d
  pub more_gates : length c.gates ≤ length d.gates
  pub owners : (q : ℕ) → q < length c.gates → owner d q ≡ owner c q
  pub requirements : (q : ℕ) → q < length c.gates → (gate d q).require ≡ (gate c q).require
  pub flags : (q : ℕ) → q < length c.gates → (gate d q).closed ≡ (gate c q).closed
  pub slots : (n : ℕ) (m : Slot) → slot c n ≡ Some m → SlotKept d n m
  pub links : (p : ℕ) (t : Target) → target d p ≡ Some t → (target c p ≡ Some t) ⊎ Changed c Touched (owner d p)

module _ (c : Configuration) (Touched : ℕ → Type 0) (noted : ℕ → Bool) (ground : Ground c Touched noted) where
  touched_if : (n : ℕ) → n < length c.slots → Changed c Touched n → Touched n
  touched_if n h k = ⊎_elim (λ (t : Touched n). t) (λ (past : length c.slots ≤ n). absurd (omega arith)) k

  owner_made : (q : ℕ) → q < length c.gates → owner c q < length c.slots
  owner_made q h = let o = ground.sound.ports q h in made_below c (owner c q) o.node o.made

  target_made : (p : ℕ) (t : Target) → target c p ≡ Some t → t.node < length c.slots
  target_made p t e = live_made c t.node (ground.sound.targets p t e).live

  module _ (d : Configuration) (b : Between c Touched d) where
    port_back : (m q : ℕ) → m < length c.slots → IsPortOf d m q → IsPortOf c m q
    port_back m q h o =
        let was = slice_get-there c.slots m h in
        let kept = b.slots m was.0 was.1 in
        let one : o.node ≡ kept.now = same_Some o.node kept.now (sym o.made ∙ kept.found) in
        record {
          node = was.0;
          made = was.1;
          from = subst (λ k. k ≤ q) (ap (λ (s : Slot). s.first_port) one ∙ kept.first) o.from;
          below = subst (λ (n : Node). q < was.0.first_port + length (row n.kind).requires_) (ap (λ (s : Slot). s.node) one ∙ kept.node)
              (subst (λ k. q < k + length (row o.node.node.kind).requires_) (ap (λ (s : Slot). s.first_port) one ∙ kept.first) o.below);
        }

    port_made : (m q : ℕ) → IsPortOf c m q → q < length c.gates
    port_made m q o = omega (arith, o.below, (ground.sound.rows m o.node o.made).within)

    depends_back : (m x q : ℕ) → IsPortOf c m q → depends d m x q ≡ true → depends c m x q ≡ true
    depends_back m x q o h =
        let kept = b.slots m o.node o.made in
        map_or_at (λ (s : Slot). depends_on s.node.kind x (gate c q).require) (slot c m) false o.node o.made
        ∙ ap (λ (n : Node). depends_on n.kind x (gate c q).require) (sym kept.node)
        ∙ ap (λ r. depends_on kept.now.node.kind x r) (sym (b.requirements q (port_made m q o)))
        ∙ sym (map_or_at (λ (s : Slot). depends_on s.node.kind x (gate d q).require) (slot d m) false kept.now kept.found)
        ∙ h

    abbrev Old : ℕ → Type 0
    Old p = (t : ℕ) × Touched t × Reach (wiring_of c) t p

    reach_while : (n p : ℕ) → Changed c Touched n → Reach (wiring_of d) n p → Changed c Touched (owner d p) ⊎ Old p
    reach_while n _ h (direct {p} {x} e) = ⊎_elim
        (λ (o : target c p ≡ Some (record { node = n; provide = x })). inr (n, touched_if n (target_made p (record { node = n; provide = x }) o) h, direct o))
        (λ (k : Changed c Touched (owner d p)). inl k)
        (b.links p (record { node = n; provide = x }) e)
    reach_while n _ h (through {p = q} {q = p} {m} {x} before own e) = ⊎_elim
        (λ (o : target c p ≡ Some (record { node = m; provide = x })).
        let made = target_made p (record { node = m; provide = x }) o in
        ⊎_elim
        (λ (mine : Changed c Touched (owner d q)). inr (m, touched_if m made (subst (Changed c Touched) (owner_of d b.sound_now m q own.0) mine), direct o))
        (λ (old : Old q).
        let was = port_back m q made own.0 in
        inr (old.0, old.1, through old.2 (was, depends_back m x q was own.1) o))
        (reach_while n q h before))
        (λ (k : Changed c Touched (owner d p)). inl k)
        (b.links p (record { node = m; provide = x }) e)

    changed_port : (q : ℕ) → Changed c Touched (owner d q) → noted q ≡ true
    changed_port q h = ⊎_elim
        (λ (made : q < length c.gates).
        ground.are_noted.own q made (touched_if (owner c q) (owner_made q made) (subst (Changed c Touched) (b.owners q made) h)))
        (λ (past : length c.gates ≤ q). ground.are_noted.fresh q past)
        (cases_lt q (length c.gates))

    pub is_noted : (n : ℕ) → Changed c Touched n → is_live d n ≡ true → IsNoted noted d n
    is_noted n h live = record {
      live = live;
      own = λ q o. changed_port q (subst (Changed c Touched) (sym (owner_of d b.sound_now n q o)) h);
      reaching = λ q w. ⊎_elim (λ (k : Changed c Touched (owner d q)). changed_port q k) (λ (old : Old q). ground.are_noted.reaching old.0 q old.1 old.2) (reach_while n q h w);
    }

    -- each step of a commit leads to such a configuration again

    between_put : (p : ℕ) (o : Option Target) → p < length d.gates → IsSound (with_target d p o) → ((t : Target) → o ≡ Some t → Changed c Touched (owner d p)) → Between c Touched (with_target d p o)
    between_put p o made s new =
        let g = record (gate d p) { target = o } in
        record {
          sound_now = s;
          more_gates = omega (arith, b.more_gates, length-set d.gates p g);
          owners = λ q h. put_owner d p g made refl refl q ∙ b.owners q h;
          requirements = λ q h. put_require d p g made refl refl q ∙ b.requirements q h;
          flags = λ q h. ⊎_elim
              (λ (same : q ≡ p). ap (λ i. (gate (with_gate d p g) i).closed) same ∙ ap (λ (h : Gate). h.closed) (put_here d p g made refl refl) ∙ sym (ap (λ i. (gate d i).closed) same))
              (λ (other : q ≡ p → ⊥). ap (λ (h : Gate). h.closed) (put_elsewhere d p g made refl refl q other))
              (cases_eq q p) ∙ b.flags q h;
          slots = λ n m e. let k = b.slots n m e in record { now = k.now; found = k.found; node = k.node; first = k.first; from = k.from };
          links = λ q t e. ⊎_elim
              (λ (same : q ≡ p).
              let is : o ≡ Some t = sym (ap (λ (h : Gate). h.target) (put_here d p g made refl refl)) ∙ sym (ap (λ i. target (with_gate d p g) i) same) ∙ e in
              inr (subst (Changed c Touched) (sym (put_owner d p g made refl refl q ∙ ap (owner d) same)) (new t is)))
              (λ (other : q ≡ p → ⊥).
              ⊎_elim (λ (old : target c q ≡ Some t). inl old)
              (λ (k : Changed c Touched (owner d q)). inr (subst (Changed c Touched) (sym (put_owner d p g made refl refl q)) k))
              (b.links q t (sym (ap (λ (h : Gate). h.target) (put_elsewhere d p g made refl refl q other)) ∙ e)))
              (cases_eq q p);
        }

    pub between_unlink : (p : ℕ) → p < length d.gates → Between c Touched (with_target d p None)
    between_unlink p made = between_put p None made (sound_unlinked d p made b.sound_now) (λ t e. absurd (cc))

    pub between_link : (p : ℕ) (t : Target) → p < length d.gates → Changed c Touched (owner d p) → LeadsToProvision d t → has_no_cycle (with_target d p (Some t)) ≡ true → Between c Touched (with_target d p (Some t))
    between_link p t made h leads acyclic = between_put p (Some t) made (sound_linked d p t made leads acyclic b.sound_now) (λ u e. h)

    pub between_remove : (n : ℕ) (m : Slot) → slot d n ≡ Some m → ((q : ℕ) (t : Target) → target d q ≡ Some t → t.node ≡ n → ⊥) → Between c Touched (with_removed d n)
    between_remove n m e none = record {
      sound_now = sound_removed d n m e b.sound_now none;
      more_gates = b.more_gates;
      owners = λ q h. b.owners q h;
      requirements = λ q h. b.requirements q h;
      flags = λ q h. b.flags q h;
      slots = λ k u w. subst (λ f. SlotKept f k u) (sym (removed_is d n m e)) (slots_after k u (b.slots k u w));
      links = λ q t w. b.links q t w;
    }
      where
        slots_after : (k : ℕ) (u : Slot) → SlotKept d k u → SlotKept (record d { slots = set d.slots n (record m { live = false }) }) k u
        slots_after k u kept = ⊎_elim
            (λ (same : k ≡ n).
            let one : kept.now ≡ m = same_Some kept.now m (sym kept.found ∙ ap (slot d) same ∙ e) in
            record {
              now = record m { live = false };
              found = ap (λ i. slot (record d { slots = set d.slots n (record m { live = false }) }) i) same ∙ here_gone d n m e;
              node = sym (ap (λ (s : Slot). s.node) one) ∙ kept.node;
              first = sym (ap (λ (s : Slot). s.first_port) one) ∙ kept.first;
              from = sym (ap (λ (s : Slot). s.from) one) ∙ kept.from;
            })
            (λ (other : k ≡ n → ⊥). record { now = kept.now; found = slot_elsewhere d n m e k other ∙ kept.found; node = kept.node; first = kept.first; from = kept.from })
            (cases_eq k n)

    pub between_make : (node : Node) (from : Option ℕ) → length d.slots < MAX_NODES → length d.gates + length (row node.kind).requires_ ≤ MAX_PORTS → Between c Touched (with_node d node from)
    between_make node from few room =
        let s = b.sound_now in
        record {
          sound_now = sound_made d s node from few room;
          more_gates = omega (arith, b.more_gates, grown_length d s node from few room);
          owners = λ q h. ap (λ (g : Gate). g.owner) (old_gate d s node from few room q (omega (arith, h, b.more_gates))) ∙ b.owners q h;
          requirements = λ q h. ap (λ (g : Gate). g.require) (old_gate d s node from few room q (omega (arith, h, b.more_gates))) ∙ b.requirements q h;
          flags = λ q h. ap (λ (g : Gate). g.closed) (old_gate d s node from few room q (omega (arith, h, b.more_gates))) ∙ b.flags q h;
          slots = λ n m e. let k = b.slots n m e in
              record { now = k.now; found = old_slot d s node from few room n (slice_get_within d.slots n k.now k.found) ∙ k.found; node = k.node; first = k.first; from = k.from };
          links = λ q t e.
              let old = old_gate d s node from few room q (linked_before d s node from few room q t e) in
              ⊎_elim (λ (o : target c q ≡ Some t). inl o)
              (λ (k : Changed c Touched (owner d q)). inr (subst (Changed c Touched) (sym (ap (λ (g : Gate). g.owner) old)) k))
              (b.links q t (sym (ap (λ (g : Gate). g.target) old) ∙ e));
        }

  pub between_start : Between c Touched c
  between_start = record {
    sound_now = ground.sound;
    more_gates = omega arith;
    owners = λ q h. refl;
    requirements = λ q h. refl;
    flags = λ q h. refl;
    slots = λ n m e. record { now = m; found = e; node = refl; first = refl; from = refl };
    links = λ p t e. inl e;
  }
