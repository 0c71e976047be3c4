-- The numbers of the events of a run: ports, slots, serials and values are below the limits of what is made and said.
use Rattle.std.proofs.Common.{◌≡◌, ℕ, ◌+◌, ◌<◌, ◌≤◌, Bool, true, false, length, Option, Some, None, sym, subst, arith}
use Rattle.std.specs.Prelude.{◌==◌, ◌&&◌, IfSome, nat_lt, nat_le, is_none, is_some, cond}
use Rattle.std.specs.Option.{option_map_or}
use Rattle.std.proofs.lemmas.Bool.{and_parts, eqb-true, leb-true, ltb-true}
use Rattle.std.proofs.lemmas.Option.{slice_get_within}
use Rattle.base.proofs.OptionLaws.{map_or_true}
use Rattle.config_graph.specs.Kinds.{row}
use Rattle.config_graph.specs.declared.TheConstants.{MAX_NODES, MAX_PORTS}
use Rattle.config_graph.specs.declared.node.Node.{Node}
use Rattle.config_graph.proofs.KindLaws.{one_provision}
use Rattle.quiesce_core.specs.declared.event.Event.{Event}
use Rattle.quiesce_core.specs.declared.event.Event.TheVariants as events
use Rattle.quiesce_core.specs.declared.state.Slot.{Slot}
use Rattle.quiesce_core.specs.Legal.{Legal}
use Rattle.quiesce_core.specs.Rules.{can_move, is_last_message, is_live_port, is_next_serial, is_port_serial, is_value, last_serial, value_limit}
use Rattle.quiesce_core.specs.State.{State, exchange, is_live, provides, slot}
use Rattle.quiesce_core.specs.WellFormed.{IsWellFormed}
use Rattle.quiesce_core.proofs.TableLaws.{gate_place, live_made}
use Rattle.change_script.specs.Written.{AreNumbers, IsNumber}

-- the numbers of an event
abbrev pub HasNumbers : Event → Type 0
HasNumbers (events.Begin p k v) = AreNumbers p k v
HasNumbers (events.Call p k v) = AreNumbers p k v
HasNumbers (events.Take p k v) = AreNumbers p k v
HasNumbers (events.More p k v) = AreNumbers p k v
HasNumbers (events.Ask p k v) = AreNumbers p k v
HasNumbers (events.Hear p k v) = AreNumbers p k v
HasNumbers (events.Give p k v) = AreNumbers p k v
HasNumbers (events.End p k v) = AreNumbers p k v
HasNumbers (events.Miss p) = IsNumber p
HasNumbers (events.Close p) = IsNumber p
HasNumbers (events.Reopen p) = IsNumber p
HasNumbers (events.Make n node from) = IsNumber n × IfSome node.arg IsNumber × IfSome from IsNumber
HasNumbers (events.Link p n x) = AreNumbers p n x
HasNumbers (events.Unlink p) = IsNumber p
HasNumbers (events.Remove n) = IsNumber n

-- ---- limits

small_serial : (k : ℕ) → k ≤ last_serial → IsNumber k
small_serial k low = omega (arith, low)

small_value : (v : ℕ) → v < value_limit → IsNumber v
small_value v low = omega (arith, low)

small_slot : (n : ℕ) → n ≤ MAX_NODES → IsNumber n
small_slot n low = omega (arith, low)

small_port : (p : ℕ) → p ≤ MAX_PORTS → IsNumber p
small_port p low = omega (arith, low)

module _ (s : State) (w : IsWellFormed s) where
  pub slot_number : (n : ℕ) → n < length s.config.slots → IsNumber n
  slot_number n made = small_slot n (omega (arith, made, w.sound.few_nodes))

  pub port_number : (p : ℕ) → p < length s.config.gates → IsNumber p
  port_number p made = small_port p (omega (arith, made, w.sound.few_ports))

  pub live_port : (p : ℕ) → is_live_port s.config p ≡ true → IsNumber p
  live_port p live = port_number p (gate_place s p live)

  live_node : (n : ℕ) → is_live s.config n ≡ true → IsNumber n
  live_node n live = slot_number n (live_made s.config n live)

  pub serial_number : (p : ℕ) → IsNumber (exchange s p).serial
  serial_number p = small_serial (exchange s p).serial (w.bounds p).serial

  next_number : (p k : ℕ) → is_next_serial s p k ≡ true → IsNumber k
  next_number p k h = small_serial k (leb-true k last_serial (and_parts (k == (exchange s p).serial + 1) (nat_le k last_serial) h).1)

  value_number : (v : ℕ) → is_value v ≡ true → IsNumber v
  value_number v h = small_value v (ltb-true v value_limit h)

  its_serial : (p k : ℕ) → is_port_serial s p k ≡ true → IsNumber k
  its_serial p k h = subst IsNumber (sym (eqb-true k (exchange s p).serial h)) (serial_number p)

  message_numbers : (p k v : ℕ) → is_last_message s p k v ≡ true → IsNumber k × IsNumber v
  message_numbers p k v h =
      let both = and_parts (k == (exchange s p).serial) (v == (exchange s p).value) h in (
        its_serial p k both.0,
        subst IsNumber (sym (eqb-true v (exchange s p).value both.1)) (small_value (exchange s p).value (w.bounds p).value),
      )

  provision_number : (n x : ℕ) → nat_lt x (provides s.config n) ≡ true → IsNumber x
  provision_number n x h = let few = one (slot s.config n) in omega (arith, few, ltb-true x (provides s.config n) h)
    where
      one : (o : Option Slot) → option_map_or (λ (m : Slot). length (row m.node.kind).provides) o 0 ≤ 1
      one None = omega arith
      one (Some m) = one_provision m.node.kind

  argument_number : (b : Bool) (arg : Option ℕ) → cond b (option_map_or is_value arg false) (is_none arg) ≡ true → IfSome arg IsNumber
  argument_number b None h = tt
  argument_number true (Some a) h = value_number a h
  argument_number false (Some a) h = absurd (cc h)

  source_number : (node : Node) (from : Option ℕ) → option_map_or (λ k. can_move s.config k node.kind) from true ≡ true → IfSome from IsNumber
  source_number node None h = tt
  source_number node (Some k) h =
      let there = map_or_true _ (slot s.config k) (and_parts _ _ h).0 in
      slot_number k (slice_get_within s.config.slots k there.0 there.1)

  -- an event that may happen has small numbers
  pub numbers : (e : Event) → Legal s e → HasNumbers e
  numbers (events.Begin p k v) l = (live_port p l.live, next_number p k l.next_serial, value_number v l.value)
  numbers (events.Call p k v) l = (live_port p l.live, next_number p k l.next_serial, value_number v l.value)
  numbers (events.Take p k v) l = let both = message_numbers p k v l.message in (live_port p l.live, both.0, both.1)
  numbers (events.More p k v) l = (live_port p l.live, its_serial p k l.serial, value_number v l.value)
  numbers (events.Ask p k v) l = (live_port p l.live, its_serial p k l.serial, value_number v l.value)
  numbers (events.Hear p k v) l = let both = message_numbers p k v l.message in (live_port p l.live, both.0, both.1)
  numbers (events.Give p k v) l = (live_port p l.live, its_serial p k l.serial, value_number v l.value)
  numbers (events.End p k v) l = let both = message_numbers p k v l.message in (live_port p l.live, both.0, both.1)
  numbers (events.Miss p) l = live_port p l.live
  numbers (events.Close p) l = live_port p l.live
  numbers (events.Reopen p) l = live_port p l.live
  numbers (events.Make n node from) l =
      let room = and_parts (n == length s.config.slots && nat_lt n MAX_NODES) (nat_le (length s.config.gates + length (row node.kind).requires_) MAX_PORTS) l.room in
      let low : n < MAX_NODES = ltb-true n MAX_NODES (and_parts (n == length s.config.slots) (nat_lt n MAX_NODES) room.0).1 in (
        small_slot n (omega (arith, low)),
        argument_number (is_some (row node.kind).arg) node.arg (and_parts _ _ l.new_path).1,
        source_number node from l.moves,
      )
  numbers (events.Link p n x) l =
      let provision = and_parts (is_live s.config n) (nat_lt x (provides s.config n)) l.provision in
      (live_port p l.live, live_node n provision.0, provision_number n x provision.1)
  numbers (events.Unlink p) l = live_port p l.live
  numbers (events.Remove n) l = live_node n l.live
