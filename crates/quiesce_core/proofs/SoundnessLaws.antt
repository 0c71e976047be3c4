-- Each event keeps a state well formed.
use Rattle.std.proofs.Common.{◌≡◌, ℕ, zero, suc, ◌+◌, ◌-◌, ◌<◌, ◌≤◌, Bool, true, false, not, eqb, ◌&&◌, List, [], ◌∷◌, ◌++◌, length, get_or, set, replicate, Option, Some, None, refl, sym, ap, ◌∙◌, subst, ⊎_elim, arith, length-set, length-append, get_or-set_same, get_or-set_other}
use Rattle.std.specs.Prelude.{◌==◌, nat_lt, nat_le, is_none, slice_get, option_map}
use Rattle.std.specs.List.{list_all, range_with_len}
use Rattle.std.specs.Option.{option_map_or}
use Rattle.std.proofs.lemmas.Bool.{and_parts, both_ways, cases_eq, cases_lt, eqb-true, ltb-true, leb-true, not-true, eq-eqb}
use Rattle.std.proofs.lemmas.Option.{slice_get_within}
use Rattle.std.proofs.lemmas.List.{length-replicate, get_or_append_left, get_or-append-add, get_or-append_right, get_or_past, set_past}
use Rattle.std.proofs.lemmas.List.FromFn.{get_or-map-range_with_len, length-map-range_with_len}
use Rattle.config_graph.specs.Kinds.{row, depends_on}
use Rattle.config_graph.specs.declared.TheConstants.{MAX_NODES, MAX_PORTS}
use Rattle.config_graph.specs.declared.node.Node.{Node}
use Rattle.config_graph.specs.declared.node.Target.{Target}
use Rattle.quiesce_core.specs.declared.event.Event.{Event}
use Rattle.quiesce_core.specs.declared.event.Event.TheVariants.{Begin, Call, Take, Give, End, More, Ask, Hear, Miss, Close, Reopen, Make, Link, Unlink, Remove}
use Rattle.quiesce_core.specs.declared.state.Slot.{Slot}
use Rattle.quiesce_core.specs.declared.state.Gate.{Gate}
use Rattle.quiesce_core.specs.declared.state.Service.{Service}
use Rattle.quiesce_core.specs.declared.state.Exchange.{Exchange}
use Rattle.quiesce_word.specs.declared.phase.Phase.TheVariants as phase
use Rattle.quiesce_core.specs.State.{Configuration, State, empty, fresh_gate, fresh_exchange, slot, is_live, ports_of, gate, owner, target, provides, exchange, service}
use Rattle.quiesce_core.specs.Reach.{IsPortOf, wiring_of, has_no_cycle}
use Rattle.config_graph.specs.Wiring.{MayCall}
use Rattle.quiesce_core.specs.WellFormed.{StandInARow, LeadsToProvision, IsWithinBounds, IsSound, IsWellFormed}
use Rattle.quiesce_core.specs.Effect.{with_gate, with_closed, with_target, with_removed, new_gates, with_node, effect}
use Rattle.quiesce_core.specs.Rules.{is_apart, is_next_serial, is_value, last_serial, value_limit}
use Rattle.quiesce_core.specs.Legal.{Legal}
use Rattle.quiesce_core.proofs.TableLaws.{gate_place}
use Rattle.base.proofs.RangeLaws.{all_in_range}
use Rattle.quiesce_core.proofs.CycleLaws.{no_cycle_if_ranked, ranked_if_no_cycle}
use Rattle.base.proofs.OptionLaws.{map_or_true, map_or_at}
use Rattle.base.proofs.PlaceLaws.{slice_get-append_front, slice_get-last, slice_get-set_other, slice_get-set_same, slice_get-snoc}

-- where no link is new there is no new cycle
no_cycle_fewer : (c d : Configuration) → has_no_cycle c ≡ true → ((n m : ℕ) → MayCall (wiring_of d) n m → MayCall (wiring_of c) n m) → has_no_cycle d ≡ true
no_cycle_fewer c d h old =
    let ranked = ranked_if_no_cycle c h in
    no_cycle_if_ranked d (record { rank = ranked.rank; falls = λ n m l. ranked.falls n m (old n m l) })

-- A gate is put at a port that was made, with the same owner and requirement.
module _ (c : Configuration) (p : ℕ) (g : Gate) (made : p < length c.gates) (same_owner : g.owner ≡ owner c p) (same_require : g.require ≡ (gate c p).require) where
  pub put_here : gate (with_gate c p g) p ≡ g
  put_here = get_or-set_same c.gates p g fresh_gate made

  pub put_elsewhere : (q : ℕ) → (q ≡ p → ⊥) → gate (with_gate c p g) q ≡ gate c q
  put_elsewhere q ne = get_or-set_other c.gates p q g fresh_gate ne

  pub put_owner : (q : ℕ) → owner (with_gate c p g) q ≡ owner c q
  put_owner q = ⊎_elim
      (λ (same : q ≡ p). ap (λ i. owner (with_gate c p g) i) same ∙ ap (λ (h : Gate). h.owner) put_here ∙ same_owner ∙ sym (ap (λ i. owner c i) same))
      (λ (other : q ≡ p → ⊥). ap (λ (h : Gate). h.owner) (put_elsewhere q other)) (cases_eq q p)

  pub put_require : (q : ℕ) → (gate (with_gate c p g) q).require ≡ (gate c q).require
  put_require q = ⊎_elim
      (λ (same : q ≡ p). ap (λ i. (gate (with_gate c p g) i).require) same ∙ ap (λ (h : Gate). h.require) put_here ∙ same_require ∙ sym (ap (λ i. (gate c i).require) same))
      (λ (other : q ≡ p → ⊥). ap (λ (h : Gate). h.require) (put_elsewhere q other)) (cases_eq q p)

  pub put_length : length (with_gate c p g).gates ≡ length c.gates
  put_length = length-set c.gates p g

  pub put_port_of : (n q : ℕ) → IsPortOf c n q → IsPortOf (with_gate c p g) n q
  put_port_of n q o = record { node = o.node; made = o.made; from = o.from; below = o.below }

  pub put_was_port_of : (n q : ℕ) → IsPortOf (with_gate c p g) n q → IsPortOf c n q
  put_was_port_of n q o = record { node = o.node; made = o.made; from = o.from; below = o.below }

  sound_with_gate : IsSound c → ((t : Target) → g.target ≡ Some t → LeadsToProvision c t) → has_no_cycle (with_gate c p g) ≡ true → IsSound (with_gate c p g)
  sound_with_gate s leads no_cycle = record {
    few_nodes = s.few_nodes;
    few_ports = omega (arith, s.few_ports, put_length);
    rows = λ n m e. let r = s.rows n m e in record {
      within = omega (arith, r.within, put_length);
      owned = λ i h. put_owner (m.first_port + i) ∙ r.owned i h;
      in_order = λ i h. put_require (m.first_port + i) ∙ r.in_order i h;
    };
    ports = λ q h.
        let before : q < length c.gates = omega (arith, h, put_length) in
        subst (λ n. IsPortOf (with_gate c p g) n q) (sym (put_owner q)) (put_port_of (owner c q) q (s.ports q before));
    targets = λ q t e. ⊎_elim
        (λ (same : q ≡ p).
        let l = leads t (sym (ap (λ (h : Gate). h.target) put_here) ∙ sym (ap (λ i. target (with_gate c p g) i) same) ∙ e) in
        record { live = l.live; provided = l.provided })
        (λ (other : q ≡ p → ⊥).
        let l = s.targets q t (sym (ap (λ (h : Gate). h.target) (put_elsewhere q other)) ∙ e) in
        record { live = l.live; provided = l.provided })
        (cases_eq q p);
    no_cycle = no_cycle;
  }

  -- where the port leads to nothing new
  put_fewer : ((t : Target) → g.target ≡ Some t → target c p ≡ Some t) → (n m : ℕ) → MayCall (wiring_of (with_gate c p g)) n m → MayCall (wiring_of c) n m
  put_fewer old n m l = record {
    port = l.port;
    provide = l.provide;
    serves = l.serves;
    depends = (put_was_port_of n l.port l.depends.0, sym (ap (λ r. option_map_or (λ (k : Slot). depends_on k.node.kind l.serves r) (slot c n) false) (put_require l.port)) ∙ l.depends.1);
    linked = ⊎_elim
        (λ (same : l.port ≡ p). ap (λ i. target c i) same ∙ old (record { node = m; provide = l.provide })
        (sym (ap (λ (h : Gate). h.target) put_here) ∙ sym (ap (λ i. target (with_gate c p g) i) same) ∙ l.linked))
        (λ (other : l.port ≡ p → ⊥). sym (ap (λ (h : Gate). h.target) (put_elsewhere l.port other)) ∙ l.linked)
        (cases_eq l.port p);
  }

pub sound_closed : (c : Configuration) (p : ℕ) (b : Bool) → p < length c.gates → IsSound c → IsSound (with_closed c p b)
sound_closed c p b made s =
    let g : Gate = record (gate c p) { closed = b } in
    sound_with_gate c p g made refl refl s (λ t e. s.targets p t e) (no_cycle_fewer c (with_gate c p g) s.no_cycle (put_fewer c p g made refl refl (λ t e. e)))

pub sound_unlinked : (c : Configuration) (p : ℕ) → p < length c.gates → IsSound c → IsSound (with_target c p None)
sound_unlinked c p made s =
    let g : Gate = record (gate c p) { target = None } in
    sound_with_gate c p g made refl refl s (λ t e. absurd (cc)) (no_cycle_fewer c (with_gate c p g) s.no_cycle (put_fewer c p g made refl refl (λ t e. absurd (cc))))

pub sound_linked : (c : Configuration) (p : ℕ) (t : Target) → p < length c.gates → LeadsToProvision c t → has_no_cycle (with_target c p (Some t)) ≡ true → IsSound c → IsSound (with_target c p (Some t))
sound_linked c p t made leads no_cycle s =
    let g : Gate = record (gate c p) { target = Some t } in
    sound_with_gate c p g made refl refl s
    (λ u e. let same : t ≡ u = cc in subst (λ i. LeadsToProvision c i) same leads) no_cycle

-- A node is removed to which no port leads.
module _ (c : Configuration) (n : ℕ) (old : Slot) (there : slot c n ≡ Some old) where
  gone : Slot
  gone = record old { live = false }

  without : Configuration
  without = record c { slots = set c.slots n (record old { live = false }) }

  pub here_gone : slice_get (set c.slots n (record old { live = false })) n ≡ Some (record old { live = false })
  here_gone = slice_get-set_same c.slots n (record old { live = false }) (slice_get_within c.slots n old there)

  pub slot_elsewhere : (k : ℕ) → (k ≡ n → ⊥) → slice_get (set c.slots n (record old { live = false })) k ≡ slot c k
  slot_elsewhere k ne = slice_get-set_other c.slots n (record old { live = false }) k ne

  port_stays : (k q : ℕ) → IsPortOf c k q → IsPortOf without k q
  unfolding without
  port_stays k q o = ⊎_elim
      (λ (same : k ≡ n).
      let one : old ≡ o.node = cc (there, o.made, ap (λ i. slot c i) same) in
      record {
        node = record old { live = false };
        made = ap (λ i. slice_get (set c.slots n (record old { live = false })) i) same ∙ here_gone;
        from = subst (λ (m : Slot). m.first_port ≤ q) (sym one) o.from;
        below = subst (λ (m : Slot). q < m.first_port + length (row m.node.kind).requires_) (sym one) o.below;
      })
      (λ (other : k ≡ n → ⊥). record { node = o.node; made = slot_elsewhere k other ∙ o.made; from = o.from; below = o.below })
      (cases_eq k n)

  port_was : (k q : ℕ) → IsPortOf without k q → IsPortOf c k q
  unfolding without
  port_was k q o = ⊎_elim
      (λ (same : k ≡ n).
      let one : record old { live = false } ≡ o.node = cc (here_gone, o.made, ap (λ i. slice_get (set c.slots n (record old { live = false })) i) same) in
      record {
        node = old;
        made = ap (λ i. slot c i) same ∙ there;
        from = subst (λ (m : Slot). m.first_port ≤ q) (sym one) o.from;
        below = subst (λ (m : Slot). q < m.first_port + length (row m.node.kind).requires_) (sym one) o.below;
      })
      (λ (other : k ≡ n → ⊥). record { node = o.node; made = sym (slot_elsewhere k other) ∙ o.made; from = o.from; below = o.below })
      (cases_eq k n)

  pub kind_stays : {A : Type 0} (f : Slot → A) (d : A) → f (record old { live = false }) ≡ f old → (k : ℕ)
      → option_map_or f (slice_get (set c.slots n (record old { live = false })) k) d ≡ option_map_or f (slot c k) d
  kind_stays f d e k = ⊎_elim
      (λ (same : k ≡ n).
      ap (λ i. option_map_or f (slice_get (set c.slots n (record old { live = false })) i) d) same
      ∙ map_or_at f (slice_get (set c.slots n (record old { live = false })) n) d (record old { live = false }) here_gone ∙ e
      ∙ sym (map_or_at f (slot c n) d old there) ∙ sym (ap (λ i. option_map_or f (slot c i) d) same))
      (λ (other : k ≡ n → ⊥). ap (λ o. option_map_or f o d) (slot_elsewhere k other))
      (cases_eq k n)

  sound_without : IsSound c → ((q : ℕ) (t : Target) → target c q ≡ Some t → t.node ≡ n → ⊥) → IsSound without
  unfolding without
  sound_without s apart = record {
    few_nodes = omega (arith, s.few_nodes, length-set c.slots n (record old { live = false }));
    few_ports = s.few_ports;
    rows = λ k m e. ⊎_elim
        (λ (same : k ≡ n).
        let one : record old { live = false } ≡ m = cc (here_gone, e, ap (λ i. slice_get (set c.slots n (record old { live = false })) i) same) in
        let r = s.rows n old there in
        subst (λ x. StandInARow without k x) one (record {
          within = r.within;
          owned = λ i h. r.owned i h ∙ sym same;
          in_order = r.in_order;
        }))
        (λ (other : k ≡ n → ⊥).
        let r = s.rows k m (sym (slot_elsewhere k other) ∙ e) in record { within = r.within; owned = r.owned; in_order = r.in_order })
        (cases_eq k n);
    ports = λ q h. port_stays (owner c q) q (s.ports q h);
    targets = λ q t e.
        let l = s.targets q t e in record {
          live = ap (λ o. option_map_or (λ (m : Slot). m.live) o false) (slot_elsewhere t.node (apart q t e)) ∙ l.live;
          provided = subst (λ i. t.provide < i) (sym (kind_stays (λ (m : Slot). length (row m.node.kind).provides) 0 refl t.node)) l.provided;
        };
    no_cycle = no_cycle_fewer c without s.no_cycle (λ k m l. record {
      port = l.port;
      provide = l.provide;
      serves = l.serves;
      depends = (port_was k l.port l.depends.0, sym (kind_stays (λ (m : Slot). depends_on m.node.kind l.serves (gate c l.port).require) false refl k) ∙ l.depends.1);
      linked = l.linked;
    });
  }

  pub sound_removed : IsSound c → ((q : ℕ) (t : Target) → target c q ≡ Some t → t.node ≡ n → ⊥) → IsSound (with_removed c n)
  unfolding without
  sound_removed s apart =
      subst (λ o. IsSound (record c { slots = option_map_or (λ (m : Slot). set c.slots n (record m { live = false })) o c.slots })) (sym there) (sound_without s apart)

-- A node is made, with ports of its own after all others.
module _ (c : Configuration) (s : IsSound c) (node : Node) (from : Option ℕ) (few : length c.slots < MAX_NODES) (room : length c.gates + length (row node.kind).requires_ ≤ MAX_PORTS) where
  requires_ : ℕ
  requires_ = length (row node.kind).requires_

  grown : Configuration
  grown = with_node c node from

  pub old_gate : (q : ℕ) → q < length c.gates → gate (with_node c node from) q ≡ gate c q
  old_gate q h = get_or_append_left c.gates (new_gates (length c.slots) (length (row node.kind).requires_)) fresh_gate q h

  pub new_gate : (i : ℕ) → i < length (row node.kind).requires_ → gate (with_node c node from) (length c.gates + i) ≡ record { owner = length c.slots; require = i; closed = true; target = None }
  new_gate i h =
      get_or-append-add c.gates (new_gates (length c.slots) (length (row node.kind).requires_)) i fresh_gate
      ∙ get_or-map-range_with_len (λ r. record { owner = length c.slots; require = r; closed = true; target = None }) 0 (length (row node.kind).requires_) i i fresh_gate h (omega arith)

  pub grown_length : length (with_node c node from).gates ≡ length c.gates + length (row node.kind).requires_
  grown_length =
      length-append c.gates (new_gates (length c.slots) (length (row node.kind).requires_))
      ∙ ap (λ k. length c.gates + k) (length-map-range_with_len (λ r. record { owner = length c.slots; require = r; closed = true; target = None }) 0 (length (row node.kind).requires_))

  -- a port with a target was made before
  linked_before : (q : ℕ) (t : Target) → target (with_node c node from) q ≡ Some t → q < length c.gates
  linked_before q t e = ⊎_elim (λ (h : q < length c.gates). h)
      (λ (past : length c.gates ≤ q). ⊎_elim
      (λ (new_ : q < length c.gates + length (row node.kind).requires_).
      let at : length c.gates + (q - length c.gates) ≡ q = omega arith in
      let none_ : target (with_node c node from) q ≡ None = sym (ap (λ i. target (with_node c node from) i) at) ∙ ap (λ (g : Gate). g.target) (new_gate (q - length c.gates) (omega arith)) in
      absurd (cc (none_, e)))
      (λ (beyond : length c.gates + length (row node.kind).requires_ ≤ q).
      let none_ : target (with_node c node from) q ≡ None = ap (λ (g : Gate). g.target) (get_or_past (with_node c node from).gates q fresh_gate (omega (arith, grown_length))) in
      absurd (cc (none_, e)))
      (cases_lt q (length c.gates + length (row node.kind).requires_)))
      (cases_lt q (length c.gates))

  pub old_slot : (n : ℕ) → n < length c.slots → slot (with_node c node from) n ≡ slot c n
  old_slot n h = slice_get-append_front c.slots (record { node = node; first_port = length c.gates; from = from; live = true } ∷ []) n h

  pub last_slot : slot (with_node c node from) (length c.slots) ≡ Some (record { node = node; first_port = length c.gates; from = from; live = true })
  last_slot = slice_get-last c.slots (record { node = node; first_port = length c.gates; from = from; live = true })

  leads_before : (n m : ℕ) → MayCall (wiring_of (with_node c node from)) n m → MayCall (wiring_of c) n m
  leads_before n m l =
      let owned = l.depends.0 in
      let before : l.port < length c.gates = linked_before l.port (record { node = m; provide = l.provide }) l.linked in
      ⊎_elim
      (λ (w : (n < length c.slots) × (slot c n ≡ Some owned.node)). record {
        port = l.port;
        provide = l.provide;
        serves = l.serves;
        depends = (
          record { node = owned.node; made = w.1; from = owned.from; below = owned.below },
          sym (ap (λ (g : Gate). option_map_or (λ (k : Slot). depends_on k.node.kind l.serves g.require) (slot c n) false) (old_gate l.port before))
              ∙ sym (ap (λ o. option_map_or (λ (k : Slot). depends_on k.node.kind l.serves (gate (with_node c node from) l.port).require) o false) (old_slot n w.0)) ∙ l.depends.1,
        );
        linked = sym (ap (λ (g : Gate). g.target) (old_gate l.port before)) ∙ l.linked;
      })
      (λ (w : (n ≡ length c.slots) × (record { node = node; first_port = length c.gates; from = from; live = true } ≡ owned.node)).
      let low : length c.gates ≤ l.port = subst (λ (k : Slot). k.first_port ≤ l.port) (sym w.1) owned.from in absurd (omega arith))
      (slice_get-snoc c.slots (record { node = node; first_port = length c.gates; from = from; live = true }) owned.node n owned.made)

  pub sound_made : IsSound (with_node c node from)
  sound_made = record {
    few_nodes = omega (arith, few, length-append c.slots (record { node = node; first_port = length c.gates; from = from; live = true } ∷ []));
    few_ports = omega (arith, room, grown_length);
    rows = λ n m e. ⊎_elim
        (λ (w : (n < length c.slots) × (slot c n ≡ Some m)). let r = s.rows n m w.1 in record {
          within = omega (arith, r.within, grown_length);
          owned = λ i h. ap (λ (g : Gate). g.owner) (old_gate (m.first_port + i) (omega (arith, h, r.within))) ∙ r.owned i h;
          in_order = λ i h. ap (λ (g : Gate). g.require) (old_gate (m.first_port + i) (omega (arith, h, r.within))) ∙ r.in_order i h;
        })
        (λ (w : (n ≡ length c.slots) × (record { node = node; first_port = length c.gates; from = from; live = true } ≡ m)).
        subst (λ x. StandInARow (with_node c node from) n x) w.1 (record {
          within = omega (arith, grown_length);
          owned = λ i h. ap (λ (g : Gate). g.owner) (new_gate i h) ∙ sym w.0;
          in_order = λ i h. ap (λ (g : Gate). g.require) (new_gate i h);
        }))
        (slice_get-snoc c.slots (record { node = node; first_port = length c.gates; from = from; live = true }) m n e);
    ports = λ q h. ⊎_elim
        (λ (before : q < length c.gates).
        let o = s.ports q before in
        let same : owner (with_node c node from) q ≡ owner c q = ap (λ (g : Gate). g.owner) (old_gate q before) in
        subst (λ i. IsPortOf (with_node c node from) i q) (sym same) (record {
          node = o.node;
          made = old_slot (owner c q) (slice_get_within c.slots (owner c q) o.node o.made) ∙ o.made;
          from = o.from;
          below = o.below;
        }))
        (λ (past : length c.gates ≤ q).
        let at : length c.gates + (q - length c.gates) ≡ q = omega arith in
        let within : q - length c.gates < length (row node.kind).requires_ = omega (arith, h, grown_length) in
        let mine : owner (with_node c node from) q ≡ length c.slots = sym (ap (λ i. owner (with_node c node from) i) at) ∙ ap (λ (g : Gate). g.owner) (new_gate (q - length c.gates) within) in
        subst (λ i. IsPortOf (with_node c node from) i q) (sym mine) (record {
          node = record { node = node; first_port = length c.gates; from = from; live = true };
          made = last_slot;
          from = past;
          below = omega (arith, within);
        }))
        (cases_lt q (length c.gates));
    targets = λ q t e.
        let l = s.targets q t (sym (ap (λ (g : Gate). g.target) (old_gate q (linked_before q t e))) ∙ e) in
        let m = map_or_true (λ (m : Slot). m.live) (slot c t.node) l.live in
        let same : slot (with_node c node from) t.node ≡ slot c t.node = old_slot t.node (slice_get_within c.slots t.node m.0 m.1) in
        record {
          live = ap (λ o. option_map_or (λ (m : Slot). m.live) o false) same ∙ l.live;
          provided = subst (λ i. t.provide < i) (sym (ap (λ o. option_map_or (λ (m : Slot). length (row m.node.kind).provides) o 0) same)) l.provided;
        };
    no_cycle = no_cycle_fewer c (with_node c node from) s.no_cycle leads_before;
  }

-- the traffic of a node's event: a service is put at the port's target
target_services : (xs : List (Option Service)) (o : Option Target) (v : Option Service) → length (option_map_or (λ (t : Target). set xs t.node v) o xs) ≡ length xs
target_services xs None v = refl
target_services xs (Some t) v = length-set xs t.node v

pub apart_from : (s : State) (n : ℕ) → is_apart s.config n ≡ true → (q : ℕ) (t : Target) → target s.config q ≡ Some t → t.node ≡ n → ⊥
apart_from s n h q t e same =
    let none_leads = (and_parts (list_all (λ p. is_none (target s.config p)) (ports_of s.config n))
    (list_all (λ p. option_map_or (λ (t : Target). not (t.node == n)) (target s.config p) true) (range_with_len 0 (length s.config.gates))) h).1 in
    let made : q < length s.config.gates = ⊎_elim (λ (l : q < length s.config.gates). l)
    (λ (past : length s.config.gates ≤ q).
    let none_ : target s.config q ≡ None = ap (λ (g : Gate). g.target) (get_or_past s.config.gates q fresh_gate past) in absurd (cc (none_, e)))
    (cases_lt q (length s.config.gates)) in
    let not_here : option_map_or (λ (t : Target). not (t.node == n)) (target s.config q) true ≡ true =
    all_in_range (λ p. option_map_or (λ (t : Target). not (t.node == n)) (target s.config p) true) 0 (length s.config.gates) q none_leads (omega arith) (omega arith) in
    let other : not (eqb t.node n) ≡ true = sym (map_or_at (λ (t : Target). not (t.node == n)) (target s.config q) true t e) ∙ not_here in
    both_ways (eqb t.node n) (not-true (eqb t.node n) other) (eq-eqb t.node n same)

-- bounds, after a write and behind the last port
bounds_set : (xs : List Exchange) → ((q : ℕ) → IsWithinBounds (get_or xs q fresh_exchange)) → (p : ℕ) (x : Exchange) → IsWithinBounds x → (q : ℕ) → IsWithinBounds (get_or (set xs p x) q fresh_exchange)
bounds_set xs old p x h q = ⊎_elim
    (λ (same : q ≡ p). ⊎_elim
    (λ (within : p < length xs). subst (λ y. IsWithinBounds y) (sym (ap (λ i. get_or (set xs p x) i fresh_exchange) same ∙ get_or-set_same xs p x fresh_exchange within)) h)
    (λ (past : length xs ≤ p). subst (λ ys. IsWithinBounds (get_or ys q fresh_exchange)) (sym (set_past xs p x past)) (old q))
    (cases_lt p (length xs)))
    (λ (other : q ≡ p → ⊥). subst (λ y. IsWithinBounds y) (sym (get_or-set_other xs p q x fresh_exchange other)) (old q))
    (cases_eq q p)

bounds_fresh : (k q : ℕ) → IsWithinBounds (get_or (replicate k fresh_exchange) q fresh_exchange)
bounds_fresh zero q = record { serial = omega arith; value = omega arith }
bounds_fresh (suc k) zero = record { serial = omega arith; value = omega arith }
bounds_fresh (suc k) (suc q) = bounds_fresh k q

bounds_append : (xs : List Exchange) → ((q : ℕ) → IsWithinBounds (get_or xs q fresh_exchange)) → (k q : ℕ) → IsWithinBounds (get_or (xs ++ replicate k fresh_exchange) q fresh_exchange)
bounds_append xs old k q = ⊎_elim
    (λ (within : q < length xs). subst (λ y. IsWithinBounds y) (sym (get_or_append_left xs (replicate k fresh_exchange) fresh_exchange q within)) (old q))
    (λ (past : length xs ≤ q). subst (λ y. IsWithinBounds y) (sym (get_or-append_right xs (replicate k fresh_exchange) (length xs) q fresh_exchange refl past)) (bounds_fresh k (q - length xs)))
    (cases_lt q (length xs))

next_bounds : (s : State) (p k v : ℕ) (within : Option ℕ) → is_next_serial s p k ≡ true → is_value v ≡ true → IsWithinBounds (record { phase = phase.Asked; serial = k; value = v; within = within })
next_bounds s p k v within h e = record {
  serial = leb-true k last_serial ((and_parts (k == (exchange s p).serial + 1) (nat_le k last_serial) h).1);
  value = ltb-true v value_limit e;
}

-- what was well formed is so after each event that may happen
pub well_formed_next : (s : State) (e : Event) → IsWellFormed s → Legal s e → IsWellFormed (effect s e)
well_formed_next s (Begin p k v) w l = record { sound = w.sound; services = w.services; exchanges = length-set s.traffic.exchanges p _ ∙ w.exchanges; bounds = bounds_set s.traffic.exchanges w.bounds p _ (next_bounds s p k v None l.next_serial l.value) }
well_formed_next s (Call p k v) w l = record { sound = w.sound; services = length-set s.traffic.services (owner s.config p) _ ∙ w.services; exchanges = length-set s.traffic.exchanges p _ ∙ w.exchanges; bounds = bounds_set s.traffic.exchanges w.bounds p _ (next_bounds s p k v (option_map (λ (u : Service). u.port) (service s (owner s.config p))) l.next_serial l.value) }
well_formed_next s (Miss p) w l = record { sound = w.sound; services = length-set s.traffic.services (owner s.config p) _ ∙ w.services; exchanges = w.exchanges; bounds = w.bounds }
well_formed_next s (Take p k v) w l = record { sound = w.sound; services = target_services s.traffic.services (target s.config p) _ ∙ w.services; exchanges = w.exchanges; bounds = w.bounds }
well_formed_next s (Give p k v) w l = record { sound = w.sound; services = target_services s.traffic.services (target s.config p) _ ∙ w.services; exchanges = length-set s.traffic.exchanges p _ ∙ w.exchanges; bounds = bounds_set s.traffic.exchanges w.bounds p _ (record { serial = (w.bounds p).serial; value = ltb-true v value_limit l.value }) }
well_formed_next s (More p k v) w l = record { sound = w.sound; services = target_services s.traffic.services (target s.config p) _ ∙ w.services; exchanges = length-set s.traffic.exchanges p _ ∙ w.exchanges; bounds = bounds_set s.traffic.exchanges w.bounds p _ (record { serial = (w.bounds p).serial; value = ltb-true v value_limit l.value }) }
well_formed_next s (Ask p k v) w l = record { sound = w.sound; services = w.services; exchanges = length-set s.traffic.exchanges p _ ∙ w.exchanges; bounds = bounds_set s.traffic.exchanges w.bounds p _ (record { serial = (w.bounds p).serial; value = ltb-true v value_limit l.value }) }
well_formed_next s (Hear p k v) w l = record { sound = w.sound; services = target_services s.traffic.services (target s.config p) _ ∙ w.services; exchanges = w.exchanges; bounds = w.bounds }
well_formed_next s (End p k v) w l = record { sound = w.sound; services = w.services; exchanges = length-set s.traffic.exchanges p _ ∙ w.exchanges; bounds = bounds_set s.traffic.exchanges w.bounds p _ (record { serial = (w.bounds p).serial; value = omega arith }) }
well_formed_next s (Close p) w l = record { sound = sound_closed s.config p true (gate_place s p l.live) w.sound; services = w.services; exchanges = w.exchanges ∙ sym (length-set s.config.gates p _); bounds = w.bounds }
well_formed_next s (Reopen p) w l = record { sound = sound_closed s.config p false (gate_place s p l.live) w.sound; services = w.services; exchanges = w.exchanges ∙ sym (length-set s.config.gates p _); bounds = w.bounds }
well_formed_next s (Make n node from) w l =
    let a = and_parts (n == length s.config.slots && nat_lt n MAX_NODES) (nat_le (length s.config.gates + length (row node.kind).requires_) MAX_PORTS) l.room in
    let b = and_parts (n == length s.config.slots) (nat_lt n MAX_NODES) a.0 in
    let next : n ≡ length s.config.slots = eqb-true n (length s.config.slots) b.0 in
    record {
      sound = sound_made s.config w.sound node from (omega (arith, next, ltb-true n MAX_NODES b.1)) (leb-true (length s.config.gates + length (row node.kind).requires_) MAX_PORTS a.1);
      services = length-append s.traffic.services (None ∷ []) ∙ ap (λ k. k + 1) w.services
          ∙ sym (length-append s.config.slots (record { node = node; first_port = length s.config.gates; from = from; live = true } ∷ []));
      exchanges = length-append s.traffic.exchanges (replicate (length (row node.kind).requires_) fresh_exchange)
          ∙ ap (λ k. length s.traffic.exchanges + k) (length-replicate (length (row node.kind).requires_) fresh_exchange)
          ∙ ap (λ k. k + length (row node.kind).requires_) w.exchanges
          ∙ sym (grown_length s.config w.sound node from (omega (arith, next, ltb-true n MAX_NODES b.1)) (leb-true (length s.config.gates + length (row node.kind).requires_) MAX_PORTS a.1));
      bounds = bounds_append s.traffic.exchanges w.bounds (length (row node.kind).requires_);
    }
well_formed_next s (Link p n x) w l =
    let t : Target = record { node = n; provide = x } in
    let both = and_parts (is_live s.config n) (nat_lt x (provides s.config n)) l.provision in
    record {
      sound = sound_linked s.config p t (gate_place s p l.live) (record { live = both.0; provided = ltb-true x (provides s.config n) both.1 }) l.no_cycle w.sound;
      services = w.services;
      exchanges = w.exchanges ∙ sym (length-set s.config.gates p _);
      bounds = w.bounds;
    }
well_formed_next s (Unlink p) w l = record { sound = sound_unlinked s.config p (gate_place s p l.live) w.sound; services = w.services; exchanges = w.exchanges ∙ sym (length-set s.config.gates p _); bounds = w.bounds }
well_formed_next s (Remove n) w l =
    let m = map_or_true (λ (m : Slot). m.live) (slot s.config n) l.live in
    record {
      sound = sound_removed s.config n m.0 m.1 w.sound (apart_from s n l.apart);
      services = w.services ∙ sym (length-set s.config.slots n (record m.0 { live = false })) ∙ sym (ap (λ o. length (option_map_or (λ (k : Slot). set s.config.slots n (record k { live = false })) o s.config.slots)) m.1);
      exchanges = w.exchanges;
      bounds = w.bounds;
    }

pub well_formed_empty : IsWellFormed empty
unfolding has_no_cycle
well_formed_empty = record {
  sound = record {
    few_nodes = omega arith;
    few_ports = omega arith;
    rows = λ n m e. absurd (cc);
    ports = λ p h. absurd (omega arith);
    targets = λ p t e. absurd (cc);
    no_cycle = refl;
  };
  services = refl;
  exchanges = refl;
  bounds = λ p. record { serial = omega arith; value = omega arith };
}
