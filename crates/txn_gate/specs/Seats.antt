-- To be believed (definitions.md).
-- What contracts say of a seat: which gates it is of, and what it knows.
use Rattle.std.specs.Prelude.{◌≡◌, List}
use Rattle.atomic_table.specs.Seated.{TableId}
use Rattle.txn_records.specs.declared.entry.Entry.{Entry}
use Rattle.txn_spec.specs.Views.{change_of, node_of}
use Rattle.txn_spec.specs.declared.view.ChangeView.{ChangeView}
use Rattle.txn_spec.specs.declared.view.NodeView.{NodeView}
use Rattle.txn_gate.specs.declared.change_seat.ChangeSeat.{ChangeSeat}
use Rattle.txn_gate.specs.declared.gates.Gates.{Gates}
use Rattle.txn_gate.specs.declared.node_seat.NodeSeat.{NodeSeat}

-- the table of words that the seat is of; no two tables have the same
abbrev pub table_of_node : NodeSeat → TableId
table_of_node s = s.seat.table_id

abbrev pub table_of_change : ChangeSeat → TableId
table_of_change s = s.seat.table_id

-- the seat is of these gates, and so of no others
abbrev pub IsSeatOf : NodeSeat → Gates → Type 0
IsSeatOf s g = table_of_node s ≡ g.words.shared.table_id

abbrev pub IsChangeSeatOf : ChangeSeat → Gates → Type 0
IsChangeSeatOf s g = table_of_change s ≡ g.words.shared.table_id

-- the node whose seat it is, with all that it did and loaded
abbrev pub node_in : NodeSeat → NodeView
node_in s = node_of s.seat.me.0

-- what the change did so far: how many nodes' seats it gave out, and its record
abbrev pub change_in : ChangeSeat → ChangeView
change_in s = change_of s.seat.me.0

-- the record: its events, looks and sights in order
abbrev pub record_of : ChangeSeat → List Entry
record_of s = (change_in s).entries

-- the nodes whose seats it took in for good
abbrev pub collected_in : ChangeSeat → List NodeView
collected_in s = s.seat.me.0.nodes
