-- What becomes of a seat by a step or a call at the gates: it stays one of the same gates, and this is what it knows then.
use Rattle.std.specs.Prelude.{◌≡◌, ◌+◌, ◌∷◌, ℕ, Bool, true, false, List, Option, Some, None}
use Rattle.atomic_table.specs.declared.shared.Seat.{Seat as TableSeat}
use Rattle.config_graph.specs.declared.node.Node.{Node}
use Rattle.txn_records.specs.declared.entry.Entry.{Entry}
use Rattle.txn_records.specs.declared.entry.Entry.TheVariants.{Did}
use Rattle.quiesce_core.specs.declared.event.Event.{Event}
use Rattle.quiesce_core.specs.declared.event.Event.TheVariants.{Make}
use Rattle.node_gate.specs.Moves.{Does}
use Rattle.txn_spec.specs.Steps.{Seat, WasShown, did, read}
use Rattle.txn_spec.specs.Views.{does, node_at, node_of, notes, reads}
use Rattle.txn_spec.specs.declared.view.LoadKind.{LoadKind}
use Rattle.txn_spec.specs.declared.view.NodeView.{NodeView}
use Rattle.txn_spec.specs.declared.view.View.{View}
use Rattle.txn_gate.specs.Seats.{change_in, collected_in, node_in, table_of_change, table_of_node}
use Rattle.txn_gate.specs.declared.change_seat.ChangeSeat.{ChangeSeat}
use Rattle.txn_gate.specs.declared.node_seat.NodeSeat.{NodeSeat}

-- ---- steps

-- a step that tells this
pub record StepDid (old new : TableSeat (Unit {0}) View) (knows : Seat) : Type 0 where
  pub here : new.table_id ≡ old.table_id
  pub me : new.me ≡ knows

-- a node's step that loaded this word of a port, and tells this
pub record StepSaw (p word : ℕ) (old new : TableSeat (Unit {0}) View) (knows : Seat) : Type 0 where
  pub here : new.table_id ≡ old.table_id
  pub me : new.me ≡ knows
  pub shown : WasShown (node_of old.me.0) p word

-- a node's step that loaded this word of a port, and is this event where the word says so
pub record StepMay (says : Bool) (e : Event) (kind : LoadKind) (p word : ℕ) (old new : TableSeat (Unit {0}) View) : Type 0 where
  pub here : new.table_id ≡ old.table_id
  pub done : says ≡ true → new.me ≡ did (read old.me kind p word) e
  pub kept : says ≡ false → new.me ≡ read old.me kind p word
  pub shown : WasShown (node_of old.me.0) p word

-- ---- calls of nodes

-- the node did these events
pub record NodeDid (old new : NodeSeat) (events : List Event) : Type 0 where
  pub here : table_of_node new ≡ table_of_node old
  pub node : node_at (node_in new) ≡ node_at (node_in old)
  pub does : Does (node_at (node_in old)) events old.known new.known (Some (node_in old).log) (Some (node_in new).log) None None

-- the node loaded this word of a port, and did this event where the word says so
pub record NodeMay (says : Bool) (e : Event) (kind : LoadKind) (p word : ℕ) (old new : NodeSeat) : Type 0 where
  pub here : table_of_node new ≡ table_of_node old
  pub slot : new.slot ≡ old.slot
  pub done : says ≡ true → node_in new ≡ does (reads (node_in old) kind p word) e
  pub kept : says ≡ false → node_in new ≡ reads (node_in old) kind p word
  pub shown : WasShown (node_in old) p word

-- nothing was done
pub record NodeStays (old new : NodeSeat) : Type 0 where
  pub here : table_of_node new ≡ table_of_node old
  pub node : node_in new ≡ node_in old
  pub slot : new.slot ≡ old.slot
  pub first_port : new.first_port ≡ old.first_port
  pub known : new.known ≡ old.known

-- ---- calls of the change

-- the record has this entry more
pub record SeatDid (old new : ChangeSeat) (x : Entry) : Type 0 where
  pub here : table_of_change new ≡ table_of_change old
  pub change : change_in new ≡ notes (change_in old) x
  pub nodes : collected_in new ≡ collected_in old
  pub spare : new.spare ≡ old.spare

-- nothing was done
pub record SeatStays (old new : ChangeSeat) : Type 0 where
  pub here : table_of_change new ≡ table_of_change old
  pub change : change_in new ≡ change_in old
  pub nodes : collected_in new ≡ collected_in old
  pub spare : new.spare ≡ old.spare

-- a node was made in this slot, and its seat given out
pub record SeatMade (n : ℕ) (node : Node) (from : Option ℕ) (old new : ChangeSeat) : Type 0 where
  pub here : table_of_change new ≡ table_of_change old
  pub change : change_in new ≡ record (notes (change_in old) (Did (Make n node from))) { seats = (change_in old).seats + 1 }
  pub nodes : collected_in new ≡ collected_in old
  pub spare : new.spare + 1 ≡ old.spare

-- the seat of this node was taken in for good
pub record SeatTook (node : NodeView) (old new : ChangeSeat) : Type 0 where
  pub here : table_of_change new ≡ table_of_change old
  pub change : change_in new ≡ change_in old
  pub nodes : collected_in new ≡ node ∷ collected_in old
  pub spare : new.spare ≡ old.spare
