-- When a node can act at a gate, and what an act of it there does.
use Rattle.std.specs.Prelude.{◌≡◌, ◌≢◌, ◌<◌, ℕ, List, Option, length, vec_capacity}
use Rattle.component_trait.specs.States.{NodeState}
use Rattle.component_trait.specs.declared.component.Component.{Ghosts as ComponentWords}
use Rattle.node_gate.specs.Loads.{Loads, TellsLoads}
use Rattle.node_gate.specs.Seats.{NodeAt}
use Rattle.node_gate.specs.declared.gate.GateSeat.{Ghosts as SeatWords}
use Rattle.node_gate.specs.declared.gate.PortGate.{Ghosts as GateWords}
use Rattle.port_queue.specs.declared.hints.Hints.{Ghosts as HintWords}
use Rattle.quiesce_core.specs.State.{State}
use Rattle.quiesce_core.specs.declared.event.Event.{Event}
use Rattle.node_host.specs.Hosted.{SeatSeen, node_of}
use Rattle.node_host.specs.Moved.{Moved}
use Rattle.node_host.specs.Posting.{GateSeen, Hinted}
use Rattle.node_host.specs.Told.{FitsToldState}
use Rattle.node_host.specs.declared.node.HostNode.{HostNode}

abbrev pub hinted_by : {H : Type 0} → HintWords H → H → List (Option ℕ) → Hinted
hinted_by words hints waiting = record { waiting = waiting; counts = words.counts hints; told = words.tells hints }

module _ {C S : Type 0} {component : ComponentWords C} {seats : SeatWords S} where
  abbrev pub state_of : HostNode C S component seats → NodeState
  state_of h = component.state h.inner

  abbrev pub node_at : HostNode C S component seats → NodeAt
  node_at h = node_of h.slot h.first_port (component.state h.inner)

  abbrev pub seat_seen : HostNode C S component seats → SeatSeen
  seat_seen h = record { slot = seats.slot_of h.seat; known = seats.known h.seat; told = seats.tells h.seat }

  -- what the seat loaded from the one to the other
  abbrev pub LoadsSo : (Loads → Loads → Type 0) → HostNode C S component seats → HostNode C S component seats → Type 0
  LoadsSo P h h' = TellsLoads P (seats.loads h.seat) (seats.loads h'.seat)

  abbrev pub hinted : {H : Type 0} → HintWords H → H → HostNode C S component seats → Hinted
  hinted words hints h = hinted_by words hints h.waiting

  module _ {G : Type 0} (words : GateWords G S) where
    -- its seat fits the gate, which knows it as this node; its log has room for an event
    pub record CanAct (gate : G) (h : HostNode C S component seats) : Type 0 where
      pub fits : words.fits gate h.seat
      pub node : words.node gate h.seat ≡ node_at h
      pub room : length h.log.items < vec_capacity h.log

    -- it did this event, or none, as `Moved` says; it is the node that it was, with a seat that fits, and so do those of
    -- other slots
    pub record Acts (gate gate' : G) (h h' : HostNode C S component seats) (e : Option Event) : Type 0 where
      pub fits : words.fits gate' h'.seat
      pub spare : words.spare gate' ≡ words.spare gate
      pub node : words.node gate' h'.seat ≡ node_at h'
      pub others : (other : S) → seats.slot_of other ≢ h.slot → words.fits gate other
          → words.fits gate' other × (words.node gate' other ≡ words.node gate other)
      pub moved : Moved (node_at h) e (state_of h) (state_of h') h.log.items h'.log.items (seat_seen h) (seat_seen h')
          (words.state gate) (words.state gate')
      pub place : (h'.slot ≡ h.slot) × (h'.first_port ≡ h.first_port)
      pub past : h'.past ≡ h.past

    -- the gate tells this state, and has of the node what its seat knows
    abbrev pub TellsState : G → HostNode C S component seats → State → Type 0
    TellsState gate h s = FitsToldState (words.state gate) (node_at h) (seats.known h.seat) s

    abbrev pub gate_seen : G → HostNode C S component seats → HostNode C S component seats → GateSeen
    gate_seen gate h h' = record { state = words.state gate; before = seats.loads h.seat; after = seats.loads h'.seat }
