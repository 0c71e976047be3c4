-- A node's view, where the node is live, is a seat that fits the state; and what the state must have of nodes that are at work.
use Rattle.std.proofs.Common.{◌≡◌, ◌∙◌, ℕ, ◌+◌, ◌-◌, ◌<◌, ◌≤◌, ◌%◌, ◌^◌, Bool, true, false, not, List, length, Option, Some, None, sym, ap, subst, arith}
use Rattle.std.specs.Prelude.{◌==◌, is_some, option_map, nat_lt}
use Rattle.std.specs.Option.{option_map_or}
use Rattle.std.proofs.lemmas.Bool.{and_parts, both_ways, eqb-true, true_from_ne_false}
use Rattle.std.proofs.lemmas.Option.{slice_get-get_or, slice_get_within}
use Rattle.config_graph.specs.Kinds.{row}
use Rattle.config_graph.specs.declared.TheConstants.{MAX_PORTS}
use Rattle.config_graph.specs.declared.node.Target.{Target}
use Rattle.quiesce_word.specs.Phases.{is_answered, is_asked, is_idle, is_in_more}
use Rattle.quiesce_word.specs.Words.{is_message_to}
use Rattle.quiesce_word.specs.declared.slot_word.SlotWord.{SlotWord}
use Rattle.quiesce_word.proofs.PhaseLaws.{answered_busy, more_busy}
use Rattle.quiesce_core.specs.Fields.{fields_of}
use Rattle.quiesce_core.specs.Knowledge.{IsKnown, IsPortKnown, IsServed, KnowsService, port_at_start}
use Rattle.quiesce_core.specs.Reach.{IsPortOf}
use Rattle.quiesce_core.specs.Rules.{value_limit}
use Rattle.quiesce_core.specs.Runs.{IsRun, state_after}
use Rattle.quiesce_core.specs.State.{State, exchange, gate, is_live, owner, service, slot, target}
use Rattle.quiesce_core.specs.Traffic.{IsConsistent}
use Rattle.quiesce_core.specs.WellFormed.{IsWellFormed}
use Rattle.quiesce_core.specs.Words.{slot_fields_of}
use Rattle.quiesce_core.specs.declared.event.Event.{Event}
use Rattle.quiesce_core.specs.declared.known.Served.{Served}
use Rattle.quiesce_core.specs.declared.state.Service.{Service}
use Rattle.quiesce_core.specs.declared.state.Slot.{Slot}
use Rattle.quiesce_core.proofs.ConfigurationLaws.{linked_made}
use Rattle.quiesce_core.proofs.KnownLaws.{knows_none, knows_some}
use Rattle.quiesce_core.proofs.ReachLaws.{owner_of}
use Rattle.quiesce_core.proofs.RunLaws.{runs_are_consistent, runs_are_well_formed}
use Rattle.quiesce_core.proofs.StabilityLaws.{busy_is_live}
use Rattle.base.proofs.OptionLaws.{Some-from_is_some, map_or_true, option_map_some}
use Rattle.config_graph.proofs.KindLaws.{two_requires}
use Rattle.node_gate.specs.Core as core
use Rattle.node_gate.specs.Core.{FitsCore, node_in}
use Rattle.node_gate.specs.Seats.{IsOwn, IsWithinLimits, NodeAt, has_heard, port_known, serves, value_seen}
use Rattle.txn_spec.specs.Steps.{value_served}
use Rattle.txn_spec.specs.Views.{node_at}
use Rattle.txn_spec.specs.Traces.{KnowsNode}
use Rattle.txn_spec.specs.declared.view.NodeView.{NodeView}

-- a value is what its 24 bits spell
low_is : (v : ℕ) → v < value_limit → v % 2 ^ 24 ≡ v
low_is v few = omega (arith, few)

module _ (es : List Event) (run : IsRun es) (n : NodeView) (h : KnowsNode es n) where
  abbrev s : State
  s = state_after es

  pub w : IsWellFormed s
  w = runs_are_well_formed es run

  pub c : IsConsistent s
  c = runs_are_consistent es run

  -- the node that was made
  made : (m : Slot) × (slot s.config n.slot ≡ Some m) × (slot_fields_of m ≡ n.made)
  made = option_map_some slot_fields_of (slot s.config n.slot) n.made h.made

  -- the state has it as its view says
  pub node_is : core.node_at s.config n.slot ≡ node_at n
  node_is = ap (node_in n.slot) made.1 ∙ ap (λ (x : SlotWord). record { slot = n.slot; kind = x.kind; first = x.first_port }) made.2

  limits : IsWithinLimits (core.node_at s.config n.slot)
  limits = subst (λ (x : NodeAt). IsWithinLimits x) (sym (ap (node_in n.slot) made.1)) (record {
    slot_within = omega (arith, slice_get_within s.config.slots n.slot made.0 made.1, w.sound.few_nodes);
    ports_within = omega (arith, (w.sound.rows n.slot made.0 made.1).within, w.sound.few_ports);
  })

  -- while it is live, a seat of it fits
  pub fits_core : is_live s.config n.slot ≡ true → FitsCore s n.slot n.known
  fits_core live = record {
    live = live;
    known = subst (λ (x : NodeAt). IsKnown s n.slot x.first n.known) (sym node_is) h.known;
    two = h.known.two_ports;
    within = limits;
  }

  -- an own port
  pub own_port : (p : ℕ) → IsOwn (node_at n) p → IsPortOf s.config n.slot p
  own_port p own = record {
    node = made.0;
    made = made.1;
    from = subst (λ (x : SlotWord). x.first_port ≤ p) (sym made.2) own.from;
    below = subst (λ (x : SlotWord). p < x.first_port + length (row x.kind).requires_) (sym made.2) own.below;
  }

  pub owner_is : (p : ℕ) → IsOwn (node_at n) p → owner s.config p ≡ n.slot
  owner_is p own = owner_of s.config w.sound n.slot p (own_port p own)

  pub port_below : (p : ℕ) → IsOwn (node_at n) p → p < MAX_PORTS
  port_below p own =
      let o = own_port p own in
      omega (arith, o.below, (w.sound.rows n.slot o.node o.made).within, w.sound.few_ports)

  -- whose port isn't closed is live; and whose port isn't idle, and who services
  pub open_lives : (p : ℕ) → IsOwn (node_at n) p → (gate s.config p).closed ≡ false → is_live s.config n.slot ≡ true
  open_lives p own opened = true_from_ne_false (is_live s.config n.slot) (λ gone.
      both_ways (gate s.config p).closed opened (c.removed p (ap (is_live s.config) (owner_is p own) ∙ gone)).0)

  pub busy_lives : (p : ℕ) → IsOwn (node_at n) p → is_idle (exchange s p).phase ≡ false → is_live s.config n.slot ≡ true
  busy_lives p own busy =
      sym (ap (is_live s.config) (owner_is p own)) ∙ (and_parts (nat_lt p (length s.config.gates)) (is_live s.config (owner s.config p)) (busy_is_live s p c busy)).1

  pub service_lives : (u : Served) → n.known.service ≡ Some u → is_live s.config n.slot ≡ true
  service_lives u serves_ =
      let v = knows_some s (service s n.slot) u (subst (λ o. KnowsService s (service s n.slot) o) serves_ h.known.service) in
      let it = c.serving n.slot v.0 v.1 in
      (w.sound.targets v.0.port (record { node = n.slot; provide = it.provide }) it.linked).live

  pub serving_lives : (p : ℕ) → serves n.known p ≡ true → is_live s.config n.slot ≡ true
  serving_lives p serving = let at = map_or_true (λ (u : Served). u.port == p) n.known.service serving in service_lives at.0 at.1

  pub heard_lives : has_heard n.known ≡ true → is_live s.config n.slot ≡ true
  heard_lives heard = let at = map_or_true (λ (u : Served). u.heard) n.known.service heard in service_lives at.0 at.1

  pub heard_serves : has_heard n.known ≡ true → (v : Service) × (service s n.slot ≡ Some v)
  heard_serves heard =
      let at = map_or_true (λ (u : Served). u.heard) n.known.service heard in
      let v = knows_some s (service s n.slot) at.0 (subst (λ o. KnowsService s (service s n.slot) o) at.1 h.known.service) in
      (v.0, v.1)

  pub free_serves : n.known.service ≡ None → service s n.slot ≡ None
  free_serves free_ = knows_none s (service s n.slot) (subst (λ o. KnowsService s (service s n.slot) o) free_ h.known.service)

  -- what is known of an own port is so
  pub port_known_is : (p : ℕ) → IsOwn (node_at n) p → IsPortKnown s p (port_known (node_at n) n.known p)
  port_known_is p own =
      let f : ℕ = n.made.first_port in
      let there : f + (p - f) ≡ p = omega (arith, own.from) in
      let few : p - f < length n.known.ports = omega (arith, own.from, own.below, two_requires n.made.kind, h.known.two_ports) in
      let at = slice_get-get_or n.known.ports (p - f) port_at_start few in
      subst (λ q. IsPortKnown s q (port_known (node_at n) n.known p)) there
      (h.known.ports (p - f) (port_known (node_at n) n.known p) at (subst (λ q. IsPortOf s.config n.slot q) (sym there) (own_port p own)))

  -- where a reply was seen, the port isn't idle
  pub seen_busy : (p : ℕ) → IsOwn (node_at n) p → is_some (port_known (node_at n) n.known p).seen ≡ true → is_idle (exchange s p).phase ≡ false
  seen_busy p own seen =
      let x = port_known (node_at n) n.known p in
      let v = Some-from_is_some x.seen seen in
      let there = (port_known_is p own).seen v.0 v.1 in
      by x.more there.answered there.in_more
    where
      by : (b : Bool) → is_answered (exchange s p).phase ≡ not b → is_in_more (exchange s p).phase ≡ b → is_idle (exchange s p).phase ≡ false
      by false answered more_ = answered_busy (exchange s p).phase answered
      by true answered more_ = more_busy (exchange s p).phase more_

  -- the value that was seen there is the port's
  pub seen_is : (p : ℕ) → IsOwn (node_at n) p → is_some (port_known (node_at n) n.known p).seen ≡ true → value_seen (port_known (node_at n) n.known p) ≡ (exchange s p).value
  seen_is p own seen =
      let x = port_known (node_at n) n.known p in
      let v = Some-from_is_some x.seen seen in
      ap (λ o. option_map_or (λ v. v) o 0) v.1 ∙ sym ((port_known_is p own).seen v.0 v.1).value

  -- the service in which it services the port
  record ServesThere (p : ℕ) : Type 0 where
    known : Served
    is_known : n.known.service ≡ Some known
    served : Service
    is : service s n.slot ≡ Some served
    same : IsServed s served known
    there : served.port ≡ p

  serving : (p : ℕ) → serves n.known p ≡ true → ServesThere p
  serving p h' =
      let at = map_or_true (λ (u : Served). u.port == p) n.known.service h' in
      let v = knows_some s (service s n.slot) at.0 (subst (λ o. KnowsService s (service s n.slot) o) at.1 h.known.service) in
      record { known = at.0; is_known = at.1; served = v.0; is = v.1; same = v.2; there = sym v.2.port ∙ eqb-true at.0.port p at.2 }

  pub serving_below : (p : ℕ) → serves n.known p ≡ true → p < MAX_PORTS
  serving_below p h' =
      let it = serving p h' in
      let leads = c.serving n.slot it.served it.is in
      omega (arith, subst (λ q. q < length s.config.gates) it.there (linked_made s.config it.served.port (record { node = n.slot; provide = leads.provide }) leads.linked), w.sound.few_ports)

  pub value_is : (p : ℕ) → serves n.known p ≡ true → has_heard n.known ≡ true → value_served n.known ≡ (exchange s p).value
  value_is p h' heard =
      let it = serving p h' in
      let was : it.served.heard ≡ true = sym it.same.heard ∙ sym (ap (λ o. option_map_or (λ (u : Served). u.heard) o false) it.is_known) ∙ heard in
      ap (λ o. option_map_or (λ (u : Served). u.value) o 0) it.is_known ∙ it.same.value was ∙ ap (λ q. (exchange s q).value) it.there

  -- each as its 24 bits spell it
  pub low_value_is : (p : ℕ) → serves n.known p ≡ true → has_heard n.known ≡ true → value_served n.known % 2 ^ 24 ≡ (exchange s p).value
  low_value_is p h' heard = ap (λ v. v % 2 ^ 24) (value_is p h' heard) ∙ low_is (exchange s p).value (w.bounds p).value

  pub low_seen_is : (p : ℕ) → IsOwn (node_at n) p → is_some (port_known (node_at n) n.known p).seen ≡ true → value_seen (port_known (node_at n) n.known p) % 2 ^ 24 ≡ value_seen (port_known (node_at n) n.known p)
  low_seen_is p own seen = ap (λ v. v % 2 ^ 24) (seen_is p own seen) ∙ low_is (exchange s p).value (w.bounds p).value ∙ sym (seen_is p own seen)

-- who takes a message is whom it is for
pub message_doer : (s : State) (p n : ℕ) → is_message_to n (fields_of s p) ≡ true → option_map_or (λ m. m == n) (option_map (λ (t : Target). t.node) (target s.config p)) false ≡ true
message_doer s p n message = by (target s.config p) (and_parts (is_asked (exchange s p).phase) (option_map_or (λ (t : Target). t.node == n) (target s.config p) false) message).1
  where
    by : (o : Option Target) → option_map_or (λ (t : Target). t.node == n) o false ≡ true → option_map_or (λ m. m == n) (option_map (λ (t : Target). t.node) o) false ≡ true
    by None h = h
    by (Some t) h = h
