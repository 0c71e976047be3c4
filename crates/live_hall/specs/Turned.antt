-- What a node's turn at the gates does.
use Rattle.std.specs.Prelude.{◌≡◌, ◌<◌, Bool, false, Some, None, Result, Ok, OnErr, OnOk, length, vec_capacity}
use Rattle.component_trait.specs.States.{NodeState}
use Rattle.component_trait.specs.declared.component.Component.{Ghosts as ComponentWords}
use Rattle.txn_spec.specs.Views.{node_at}
use Rattle.node_host.specs.Hosted.{SeatSeen, node_of}
use Rattle.node_host.specs.Moved.{Moved}
use Rattle.node_host.specs.Posting.{GateSeen, Hinted, IsHinted}
use Rattle.node_host.specs.Tried.{IsTried, is_begin}
use Rattle.node_host.specs.Trying.{IsAsked}
use Rattle.node_host.specs.Turning.{event_of}
use Rattle.node_host.specs.declared.node.HostNode.{HostNode}
use Rattle.node_host.specs.declared.turning.Turn.{Turn}
use Rattle.node_host.specs.declared.turning.Turn.TheVariants as turn
use Rattle.node_gate.specs.Seats.{NodeAt}
use Rattle.node_gate.specs.declared.gate.GateSeat.{Ghosts as SeatWords}
use Rattle.port_queue.specs.declared.hints.Hints.{Ghosts as HintWords}
use Rattle.node_turn_laws.specs.Turn.{looks}
use Rattle.txn_gate.specs.Seats.{IsSeatOf, node_in, table_of_node}
use Rattle.txn_gate.specs.Told.{loads_of}
use Rattle.txn_gate.specs.declared.gates.Gates.{Gates}
use Rattle.txn_gate.specs.declared.node_seat.NodeSeat.{NodeSeat}

module _ {C : Type 0} {component : ComponentWords C} {seats : SeatWords NodeSeat} where
  abbrev pub state_of : HostNode C NodeSeat component seats → NodeState
  state_of h = component.state h.inner

  abbrev pub place_of : HostNode C NodeSeat component seats → NodeAt
  place_of h = node_of h.slot h.first_port (component.state h.inner)

  abbrev pub seat_seen : HostNode C NodeSeat component seats → SeatSeen
  seat_seen h = record { slot = h.seat.slot; known = h.seat.known; told = Some (node_in h.seat).log }

  -- its seat is of these gates, and of the node
  pub record IsSeatedAt (gates : Gates) (h : HostNode C NodeSeat component seats) : Type 0 where
    pub here : IsSeatOf h.seat gates
    pub node : node_at (node_in h.seat) ≡ place_of h

  -- The turn did this event, or none, as `Moved` says. It is the node that it was, at the same gates, with a seat that
  -- says of its slot's word what it said. Where no event was done, the words that the seat loaded show why.
  pub record Turned (begins : Bool) {E : Type 0} (r : Result Turn E) (old new : HostNode C NodeSeat component seats) : Type 0 where
    pub here : table_of_node new.seat ≡ table_of_node old.seat
    pub made : (node_in new.seat).made ≡ (node_in old.seat).made
    pub node : node_at (node_in new.seat) ≡ place_of new
    pub moved : Moved (place_of old) (event_of r) (state_of old) (state_of new) old.log.items new.log.items (seat_seen old) (seat_seen new) None None
    pub place : (new.slot ≡ old.slot) × (new.first_port ≡ old.first_port)
    pub past : new.past ≡ old.past
    pub full : OnErr r (length old.log.items < vec_capacity old.log → component.has_room old.inner → ⊥)
    pub tried : OnOk r (IsTried (place_of old) (state_of old) old.known begins (event_of r) (Some (loads_of (node_in old.seat).loads)) (Some (loads_of (node_in new.seat).loads)))
    pub no_begin : begins ≡ false → is_begin (event_of r) ≡ false

  abbrev gate_seen : HostNode C NodeSeat component seats → HostNode C NodeSeat component seats → GateSeen
  gate_seen old new = record { state = None; before = Some (loads_of (node_in old.seat).loads); after = Some (loads_of (node_in new.seat).loads) }

  module _ {H : Type 0} (words : HintWords H) where
    abbrev hinted : H → HostNode C NodeSeat component seats → Hinted
    hinted way h = record { waiting = h.waiting; counts = words.counts way; told = words.tells way }

    -- What it did with hints: those of its event, and those that waited, were posted or refused; and where it did no
    -- event in no service, its own inbox was asked. After want of memory hints and seat are as they were.
    pub record HintsTold {E : Type 0} (r : Result Turn E) (old new : HostNode C NodeSeat component seats) (way way' : H) : Type 0 where
      pub memory : OnErr r ((new.waiting ≡ old.waiting) × (new.seat ≡ old.seat) × (way' ≡ way))
      pub hints : OnOk r (IsHinted (gate_seen old new) (place_of old) old.seat.known (λ s. looks s old.slot (state_of old)) (event_of r) (hinted way old) (hinted way' new))
      pub looked : r ≡ Ok turn.Still → (state_of old).service ≡ None → IsAsked (words.counts way old.slot) (words.counts way' old.slot)
