-- A system that was started as a sound graph says is well formed.
use Rattle.std.proofs.Common.{◌≡◌, ℕ, zero, suc, ◌+◌, ◌-◌, ◌<◌, ◌≤◌, true, false, List, [], ◌∷◌, length, map, get_or, Option, Some, None, refl, sym, ap, ◌∙◌, subst, ⊎_elim, arith}
use Rattle.std.specs.Prelude.{slice_get, option_map}
use Rattle.std.specs.List.{enumerate_from}
use Rattle.std.specs.Option.{option_map_or}
use Rattle.std.proofs.lemmas.Bool.{both_ways, cases_lt}
use Rattle.std.proofs.lemmas.Option.{slice_get_within, get_or_from_slice_get, slice_get_past, slice_get-map}
use Rattle.std.proofs.lemmas.List.{length-map, get_or_past}
use Rattle.std.proofs.lemmas.List.Sums.{sum_by_more}
use Rattle.std.specs.Ordering.{nat_cmp}
use Rattle.std.specs.Cmp.Lexicographic.{slice_cmp}
use Rattle.std.specs.declared.cmp.Ordering.TheVariants.{Less}
use Rattle.std.proofs.lemmas.List.Elements.{All-contains}
use Rattle.std.proofs.lemmas.List.FromFn.{length-enumerate_from}
use Rattle.config_graph.specs.Kinds.{row}
use Rattle.config_graph.specs.Graph.{Graph, IsLinkWithin, begins_at, link_at, port_number, first_port, ports, target_of, requires_of, requires_at, provides_at, provides_of}
use Rattle.config_graph.specs.Cycles as cycles
use Rattle.config_graph.specs.Sound.{Sound, HasItsArgument}
use Rattle.config_graph.specs.declared.TheConstants.{MAX_NODES, MAX_PORTS}
use Rattle.config_graph.specs.declared.node.Node.{Node}
use Rattle.config_graph.specs.declared.node.Port.{Port}
use Rattle.config_graph.specs.declared.node.Target.{Target}
use Rattle.config_graph.proofs.LinkLaws.{begins_there, get-ports, port_number-place, require_within, target_within}
use Rattle.config_graph.proofs.NumberingLaws.{length-ports}
use Rattle.quiesce_core.specs.declared.state.Slot.{Slot}
use Rattle.quiesce_core.specs.declared.state.Gate.{Gate}
use Rattle.quiesce_core.specs.State.{fresh_gate, fresh_exchange, slot, is_live, gate, owner, target, exchange}
use Rattle.quiesce_core.specs.declared.state.Exchange.{Exchange}
use Rattle.quiesce_word.specs.Phases.{is_idle, is_in_more}
use Rattle.quiesce_core.specs.Traffic.{IsConsistent}
use Rattle.quiesce_core.specs.Reach.{IsPortOf, wiring_of}
use Rattle.quiesce_core.specs.SameWiring.{IsPortAt}
use Rattle.quiesce_core.specs.WellFormed.{StandInARow, LeadsToProvision, IsWithinBounds, IsSound, IsWellFormed}
use Rattle.quiesce_core.specs.Named.{AreNamed}
use Rattle.config_graph.proofs.PathLaws.{irreflexive}
use Rattle.quiesce_core.proofs.LiveLinkLaws.{IsLiveLink, linked_at}
use Rattle.quiesce_core.specs.Live.{StandsAt, IsGraphOf}
use Rattle.config_graph.specs.declared.node.Link.{Link}
use Rattle.quiesce_core.specs.Start.{slot_of, gate_of, no_service, no_exchange, started}
use Rattle.quiesce_core.proofs.CycleLaws.{no_cycle_if_acyclic}
use Rattle.base.proofs.OptionLaws.{map_or_at}
use Rattle.quiesce_core.proofs.ConfigurationLaws.{linked_made}
use Rattle.quiesce_core.proofs.SameWiringLaws.{to_graph}
use Rattle.config_graph.proofs.WiringLaws.{no_cycle_there}
use Rattle.base.proofs.ContainsLaws.{Contains-at, at_some_place}
use Rattle.base.proofs.FindLaws.{Contains-find, find_passes}
use Rattle.base.proofs.PlaceLaws.{slice_get-there as there, get_numbered}
use Rattle.base.proofs.SumLaws.{sum_taken}

module _ (g : Graph) (sound : Sound g) (few_nodes : length g.nodes ≤ MAX_NODES) (few_ports : length (ports g.nodes) ≤ MAX_PORTS) where
  slot_made : (n : ℕ) (node : Node) → slice_get g.nodes n ≡ Some node → slot (started g).config n ≡ Some (slot_of g.nodes (n, node))
  slot_made n node e =
      slice_get-map (slot_of g.nodes) (enumerate_from 0 g.nodes) n ∙ ap (λ o. option_map (slot_of g.nodes) o) (get_numbered 0 g.nodes n node e)
      ∙ ap (λ i. Some (slot_of g.nodes (i, node))) (omega arith)

  slots_length : length (started g).config.slots ≡ length g.nodes
  slots_length = length-map (enumerate_from 0 g.nodes) (slot_of g.nodes) ∙ length-enumerate_from 0 g.nodes

  gates_length : length (started g).config.gates ≡ length (ports g.nodes)
  gates_length = length-map (ports g.nodes) (gate_of g)

  gate_made : (p : ℕ) (q : Port) → slice_get (ports g.nodes) p ≡ Some q → gate (started g).config p ≡ gate_of g q
  gate_made p q e =
      get_or_from_slice_get (map (gate_of g) (ports g.nodes)) p (gate_of g q) fresh_gate
      (slice_get-map (gate_of g) (ports g.nodes) p ∙ ap (λ o. option_map (gate_of g) o) e)

  -- what a made slot holds
  slot_was : (n : ℕ) (m : Slot) → slot (started g).config n ≡ Some m → (node : Node) × (slice_get g.nodes n ≡ Some node) × (m ≡ slot_of g.nodes (n, node))
  slot_was n m e =
      let within : n < length g.nodes = omega (arith, slice_get_within (started g).config.slots n m e, slots_length) in
      let w = there g.nodes n within in
      (w.0, w.1, cc (e, slot_made n w.0 w.1))

  requires_there : (n : ℕ) (node : Node) → slice_get g.nodes n ≡ Some node → requires_at g.nodes n ≡ requires_of node
  requires_there n node e = map_or_at requires_of (slice_get g.nodes n) 0 node e

  gate_in_row : (n : ℕ) (node : Node) (r : ℕ) → slice_get g.nodes n ≡ Some node → r < requires_of node → gate (started g).config (first_port g.nodes n + r) ≡ gate_of g (record { node = n; require = r })
  gate_in_row n node r e h =
      gate_made (first_port g.nodes n + r) (record { node = n; require = r }) (get-ports g.nodes n r (subst (λ k. r < k) (sym (requires_there n node e)) h))

  target_was : (p : ℕ) (t : Target) → target (started g).config p ≡ Some t → (q : Port) × (slice_get (ports g.nodes) p ≡ Some q) × (target_of g.links q.node q.require ≡ Some t)
  target_was p t e = ⊎_elim
      (λ (within : p < length (ports g.nodes)).
      let q = there (ports g.nodes) p within in
      (q.0, q.1, sym (ap (λ (h : Gate). h.target) (gate_made p q.0 q.1)) ∙ e))
      (λ (past : length (ports g.nodes) ≤ p).
      let none_ : target (started g).config p ≡ None = ap (λ (h : Gate). h.target) (get_or_past (started g).config.gates p fresh_gate (omega (arith, gates_length))) in
      absurd (cc (none_, e)))
      (cases_lt p (length (ports g.nodes)))

  made_if : (f : Node → ℕ) (n r : ℕ) → r < option_map_or f (slice_get g.nodes n) 0 → n < length g.nodes
  made_if f n r h = ⊎_elim (λ (l : n < length g.nodes). l)
      (λ (past : length g.nodes ≤ n). absurd (omega (arith, ap (λ o. option_map_or f o 0) (slice_get_past g.nodes n past), h))) (cases_lt n (length g.nodes))

  requires_made : (n r : ℕ) → r < requires_at g.nodes n → n < length g.nodes
  requires_made n r h = made_if requires_of n r h

  provides_made : (n r : ℕ) → r < provides_at g.nodes n → n < length g.nodes
  provides_made n r h = made_if provides_of n r h

  rows_started : (n : ℕ) (m : Slot) → slot (started g).config n ≡ Some m → StandInARow (started g).config n m
  rows_started =
      λ n m e.
      let was = slot_was n m e in
      subst (λ s. StandInARow (started g).config n s) (sym was.2) (record {
        within = omega (arith, sum_taken requires_of g.nodes n was.0 was.1, length-ports g.nodes, gates_length);
        owned = λ r h. ap (λ (x : Gate). x.owner) (gate_in_row n was.0 r was.1 h);
        in_order = λ r h. ap (λ (x : Gate). x.require) (gate_in_row n was.0 r was.1 h);
      })

  ports_started : (p : ℕ) → p < length (started g).config.gates → IsPortOf (started g).config (owner (started g).config p) p
  ports_started =
      λ p h.
      let q = there (ports g.nodes) p (omega (arith, gates_length)) in
      let within : q.0.require < requires_at g.nodes q.0.node = require_within g.nodes p q.0 q.1 in
      let node = there g.nodes q.0.node (requires_made q.0.node q.0.require within) in
      let place : p ≡ first_port g.nodes q.0.node + q.0.require = port_number-place g.nodes p q.0 q.1 in
      let size : requires_at g.nodes q.0.node ≡ requires_of node.0 = requires_there q.0.node node.0 node.1 in
      subst (λ n. IsPortOf (started g).config n p) (sym (ap (λ (x : Gate). x.owner) (gate_made p q.0 q.1))) (record {
        node = slot_of g.nodes (q.0.node, node.0);
        made = slot_made q.0.node node.0 node.1;
        from = omega (arith, place);
        below = omega (arith, place, size, within);
      })

  targets_started : (p : ℕ) (t : Target) → target (started g).config p ≡ Some t → LeadsToProvision (started g).config t
  targets_started =
      λ p t e.
      let was = target_was p t e in
      let within : t.provide < provides_at g.nodes t.node = target_within g.nodes g.links was.0.node was.0.require t sound.within was.2 in
      let node = there g.nodes t.node (provides_made t.node t.provide within) in
      record {
        live = map_or_at (λ (m : Slot). m.live) (slot (started g).config t.node) false (slot_of g.nodes (t.node, node.0)) (slot_made t.node node.0 node.1);
        provided = subst (λ k. t.provide < k)
            (map_or_at provides_of (slice_get g.nodes t.node) 0 node.0 node.1
            ∙ sym (map_or_at (λ (m : Slot). length (row m.node.kind).provides) (slot (started g).config t.node) 0 (slot_of g.nodes (t.node, node.0)) (slot_made t.node node.0 node.1))) within;
      }

  owned_started : (n p : ℕ) → IsPortOf (started g).config n p → owner (started g).config p ≡ n
  owned_started n p o =
      let at : o.node.first_port + (p - o.node.first_port) ≡ p = omega (arith, o.from) in
      sym (ap (λ i. owner (started g).config i) at) ∙ (rows_started n o.node o.made).owned (p - o.node.first_port) (omega (arith, o.from, o.below))

  -- all that was made is live
  live_started : (n : ℕ) (m : Slot) → slot (started g).config n ≡ Some m → is_live (started g).config n ≡ true
  live_started n m e =
      let was = slot_was n m e in
      map_or_at (λ (k : Slot). k.live) (slot (started g).config n) false m e ∙ ap (λ (k : Slot). k.live) was.2

  pub named_started : AreNamed (started g).config
  named_started = record {
    paths = λ i j m n at_i at_j live_i live_j same.
        let v = slot_was i m at_i in
        let w = slot_was j n at_j in
        let paths : v.0.path ≡ w.0.path = ap (λ (s : Slot). s.node.path) (sym v.2) ∙ same ∙ ap (λ (s : Slot). s.node.path) w.2 in
        ⊎_elim (λ (before : i < j). absurd (apart i j v.0 w.0 before v.1 w.1 paths))
        (λ (rest : j ≤ i). ⊎_elim (λ (after : j < i). absurd (apart j i w.0 v.0 after w.1 v.1 (sym paths))) (λ (last : i ≤ j). omega arith) (cases_lt j i))
        (cases_lt i j);
    arguments = λ i m at.
        let w = slot_was i m at in
        subst (λ (s : Slot). HasItsArgument s.node) (sym w.2) (All-contains HasItsArgument g.nodes w.0 sound.arguments (Contains-at g.nodes i w.0 w.1));
  }
    where
      apart : (i j : ℕ) (x y : Node) → i < j → slice_get g.nodes i ≡ Some x → slice_get g.nodes j ≡ Some y → x.path ≡ y.path → ⊥
      apart i j x y before at_i at_j same =
          let rises = sound.paths_rise i j x before (slice_get_within g.nodes j y at_j) in
          irreflexive y.path (subst (λ q. slice_cmp nat_cmp q y.path ≡ Less) same
          (subst (λ (n : Node). slice_cmp nat_cmp n.path y.path ≡ Less) (get_or_from_slice_get g.nodes i x x at_i)
          (subst (λ (n : Node). slice_cmp nat_cmp (get_or g.nodes i x).path n.path ≡ Less) (get_or_from_slice_get g.nodes j y x at_j) rises)))

  -- a node stands at one place
  one_place : (i j : ℕ) (node : Node) → slice_get g.nodes i ≡ Some node → slice_get g.nodes j ≡ Some node → i ≡ j
  one_place i j node at_i at_j =
      named_started.paths i j (slot_of g.nodes (i, node)) (slot_of g.nodes (j, node)) (slot_made i node at_i) (slot_made j node at_j) refl refl refl

  stands_started : (i : ℕ) (node : Node) → slice_get g.nodes i ≡ Some node → StandsAt (started g).config g.nodes i i
  stands_started i node at = record { made = slot_of g.nodes (i, node); there = slot_made i node at; live = refl; stands = at }

  stood : (n i : ℕ) → StandsAt (started g).config g.nodes n i → n ≡ i
  stood n i s =
      let w = slot_was n s.made s.there in
      let same : w.0 ≡ s.made.node = ap (λ (m : Slot). m.node) (sym w.2) in
      one_place n i s.made.node (w.1 ∙ ap Some same) s.stands

  link_started : (i r j x : ℕ) → cycles.IsLinked g i r j x → IsLiveLink (started g).config g.nodes i r j x
  link_started i r j x e = by (link_at g.links i r) refl e
    where
      node_at : (f : Node → ℕ) (n k : ℕ) → k < option_map_or f (slice_get g.nodes n) 0 → (node : Node) × (slice_get g.nodes n ≡ Some node)
      node_at f n k h = there g.nodes n (⊎_elim (λ (l : n < length g.nodes). l)
          (λ (past : length g.nodes ≤ n). absurd (omega (arith, ap (λ o. option_map_or f o 0) (slice_get_past g.nodes n past), h))) (cases_lt n (length g.nodes)))

      by : (o : Option Link) → link_at g.links i r ≡ o → target_of g.links i r ≡ Some (record { node = j; provide = x }) → IsLiveLink (started g).config g.nodes i r j x
      by None at e = absurd (cc (ap (λ o. option_map {U = Target} (λ (l : Link). record { node = l.to; provide = l.provide }) o) at, e))
      by (Some l) at e =
          let begins = begins_there i r l (find_passes (begins_at i r) g.links l at) in
          let within = All-contains (IsLinkWithin g.nodes) g.links l sound.within (Contains-find (begins_at i r) g.links l at) in
          let required : r < requires_at g.nodes i = subst (λ k. k < requires_at g.nodes i) begins.1 (subst (λ k. l.require < requires_at g.nodes k) begins.0 within.begins) in
          let provided : x < provides_at g.nodes j = target_within g.nodes g.links i r (record { node = j; provide = x }) sound.within e in
          let from = node_at requires_of i r required in
          let to = node_at provides_of j x provided in
          let here = gate_made (port_number g.nodes i r) (record { node = i; require = r }) (get-ports g.nodes i r required) in
          record {
            port = port_number g.nodes i r;
            to = j;
            leads = ap (λ (h : Gate). h.target) here ∙ e;
            requirement = ap (λ (h : Gate). h.require) here;
            from_there = subst (λ k. StandsAt (started g).config g.nodes k i) (sym (ap (λ (h : Gate). h.owner) here)) (stands_started i from.0 from.1);
            to_there = stands_started j to.0 to.1;
          }

  link_was : (i r j x : ℕ) → IsLiveLink (started g).config g.nodes i r j x → cycles.IsLinked g i r j x
  link_was i r j x v =
      let w = target_was v.port (record { node = v.to; provide = x }) v.leads in
      let here = gate_made v.port w.0 w.1 in
      let from : w.0.node ≡ i = sym (ap (λ (h : Gate). h.owner) here) ∙ stood (owner (started g).config v.port) i v.from_there in
      let require : w.0.require ≡ r = sym (ap (λ (h : Gate). h.require) here) ∙ v.requirement in
      ap (λ k. target_of g.links k r) (sym from) ∙ ap (λ k. target_of g.links w.0.node k) (sym require) ∙ w.2
      ∙ ap (λ k. Some (record { node = k; provide = x })) (stood v.to j v.to_there)

  -- the graph of the system is the one that it was started as
  pub graph_started : IsGraphOf (started g).config g
  graph_started = record {
    paths_rise = sound.paths_rise;
    nodes_are = λ node. (
      λ h.
          let a = at_some_place g.nodes node h in
          (a.0, record { made = slot_of g.nodes (a.0, node); there = slot_made a.0 node a.1; live = refl; is_node = refl }),
      λ l.
          let w = slot_was l.0 l.1.made l.1.there in
          Contains-at g.nodes l.0 node (w.1 ∙ ap Some (ap (λ (m : Slot). m.node) (sym w.2) ∙ l.1.is_node)),
    );
    links_are = λ i r j x. (
      λ l. (linked_at (started g).config g.nodes i r j x).0 (link_started i r j x l),
      λ l. link_was i r j x ((linked_at (started g).config g.nodes i r j x).1 l),
    );
    in_order = sound.in_order;
  }

  sound_started : IsSound (started g).config
  sound_started = record {
    few_nodes = omega (arith, slots_length, few_nodes);
    few_ports = omega (arith, gates_length, few_ports);
    rows = rows_started;
    ports = ports_started;
    targets = targets_started;
    no_cycle = no_cycle_if_acyclic (started g).config (no_cycle_there (wiring_of (started g).config) (cycles.graph_wiring g) (StandsAt (started g).config g.nodes) (IsPortAt (started g).config g)
        (to_graph (started g).config named_started g graph_started (record {
          from = λ p t e. let o = ports_started p (linked_made (started g).config p t e) in live_started (owner (started g).config p) o.node o.made;
          to = λ p t e. (targets_started p t e).live;
          owned = owned_started;
          ports = ports_started;
        })) sound.no_cycle);
  }

  pub well_formed_started : IsWellFormed (started g)
  well_formed_started = record {
    sound = sound_started;
    services = length-map g.nodes no_service ∙ sym slots_length;
    exchanges = length-map (ports g.nodes) no_exchange ∙ sym gates_length;
    bounds = λ p. bounds_unused (ports g.nodes) p;
  }
    where
      bounds_unused : (ps : List Port) (p : ℕ) → IsWithinBounds (get_or (map no_exchange ps) p fresh_exchange)
      bounds_unused [] p = record { serial = omega arith; value = omega arith }
      bounds_unused (q ∷ ps) zero = record { serial = omega arith; value = omega arith }
      bounds_unused (q ∷ ps) (suc p) = bounds_unused ps p

  -- all is idle in it
  pub consistent_started : IsConsistent (started g)
  consistent_started = record {
    linked = λ p h. absurd (both_ways (is_idle (exchange (started g) p).phase) h (ap (λ (x : Exchange). is_idle x.phase) (fresh (ports g.nodes) p)));
    serving = λ n v e. absurd (cc (e, serves_none g.nodes n));
    taken = λ p h. absurd (both_ways (is_in_more (exchange (started g) p).phase) (ap (λ (x : Exchange). is_in_more x.phase) (fresh (ports g.nodes) p)) h);
    consequent = λ p q e. absurd (cc (e, ap (λ (x : Exchange). x.within) (fresh (ports g.nodes) p)));
    removed = λ p h. ⊎_elim
        (λ (made : p < length (started g).config.gates).
        let o = sound_started.ports p made in
        let was = slot_was (owner (started g).config p) o.node o.made in
        absurd (both_ways (is_live (started g).config (owner (started g).config p)) h
        (map_or_at (λ (m : Slot). m.live) (slot (started g).config (owner (started g).config p)) false o.node o.made ∙ ap (λ (m : Slot). m.live) was.2)))
        (λ (past : length (started g).config.gates ≤ p).
        let none_ : gate (started g).config p ≡ fresh_gate = get_or_past (started g).config.gates p fresh_gate past in
        (ap (λ (x : Gate). x.closed) none_, ap (λ (x : Gate). x.target) none_))
        (cases_lt p (length (started g).config.gates));
  }
    where
      fresh : (ps : List Port) (p : ℕ) → get_or (map no_exchange ps) p fresh_exchange ≡ fresh_exchange
      fresh [] p = refl
      fresh (q ∷ ps) zero = refl
      fresh (q ∷ ps) (suc p) = fresh ps p

      serves_none : (ns : List Node) (n : ℕ) → get_or (map no_service ns) n None ≡ None
      serves_none [] n = refl
      serves_none (m ∷ ns) zero = refl
      serves_none (m ∷ ns) (suc n) = serves_none ns n

-- the first port after one node more
pub first_port_more : (nodes : List Node) (i : ℕ) (n : Node) → slice_get nodes i ≡ Some n → first_port nodes i + requires_of n ≡ first_port nodes (i + 1)
first_port_more nodes i n e =
    ap (λ x. first_port nodes i + requires_of x) (sym (get_or_from_slice_get nodes i n n e))
    ∙ sym (sum_by_more requires_of nodes i n (slice_get_within nodes i n e))

pub first_port_fits : (nodes : List Node) (i : ℕ) (n : Node) → slice_get nodes i ≡ Some n → first_port nodes i + requires_of n ≤ length (ports nodes)
first_port_fits nodes i n e = subst (λ k. first_port nodes i + requires_of n ≤ k) (sym (length-ports nodes)) (sum_taken requires_of nodes i n e)
