-- To be believed (definitions.md).
-- What seats know, and how it grows.
use Rattle.std.specs.Prelude.{ℕ, ◌+◌, Bool, ◌==◌, List, [], ◌∷◌, ◌++◌, length, Some, None, drop, slice_index_or, if◌then◌else◌}
use Rattle.std.specs.List.{list_any}
use Rattle.std.specs.Option.{option_map_or}
use Rattle.config_graph.specs.declared.kind.Kind.TheVariants as kind
use Rattle.txn_records.specs.declared.entry.Entry.{Entry}
use Rattle.txn_records.specs.declared.entry.Entry.TheVariants.{Sighted}
use Rattle.quiesce_core.specs.Knowledge.{known_next, nothing_known}
use Rattle.txn_records.specs.Entries.{config_of}
use Rattle.quiesce_core.specs.State.{slot}
use Rattle.quiesce_core.specs.Words.{slot_fields_of}
use Rattle.quiesce_core.specs.declared.event.Event.{Event}
use Rattle.node_gate.specs.Seats.{NodeAt}
use Rattle.txn_spec.specs.declared.view.LoadKind.{LoadKind}
use Rattle.txn_spec.specs.declared.view.LoadStep.{LoadStep}
use Rattle.txn_spec.specs.declared.view.NodeView.{NodeView}
use Rattle.txn_spec.specs.declared.view.ChangeView.{ChangeView}
use Rattle.txn_spec.specs.declared.view.View.{View}

-- the seat of a node; that of the change, with the nodes whose seats it took in; and a seat that was taken in
abbrev pub of_node : NodeView → View
of_node n = record { nodes = n ∷ []; change = None }

abbrev pub of_change : List NodeView → ChangeView → View
of_change nodes c = record { nodes = nodes; change = Some c }

abbrev pub nobody : View
nobody = record { nodes = []; change = None }

-- the change before its first step
abbrev pub nothing_done : ChangeView
nothing_done = record { seats = 0; entries = [] }

-- the node of a seat
abbrev pub node_at : NodeView → NodeAt
node_at n = record { slot = n.slot; kind = n.made.kind; first = n.made.first_port }

-- one more event of the node: what was loaded before it counts no more
abbrev pub does : NodeView → Event → NodeView
does n e = record n { known = known_next n.made.first_port n.known e; log = n.log ++ e ∷ []; loaded = None }

-- one more word that it loaded
abbrev pub load_step : NodeView → LoadKind → ℕ → ℕ → LoadStep
load_step n k p w = record { kind = k; port = p; word = w; done = length n.log }

abbrev pub reads : NodeView → LoadKind → ℕ → ℕ → NodeView
reads n k p w = record n { loads = n.loads ++ load_step n k p w ∷ [] }

-- one more entry of the change
abbrev pub notes : ChangeView → Entry → ChangeView
notes c x = record c { entries = c.entries ++ x ∷ [] }

-- nothing is known of it
abbrev pub unknown : NodeView
unknown = record {
  slot = 0;
  made = record { kind = kind.Fork; first_port = 0; arg = None; from = None };
  known = nothing_known;
  log = [];
  loads = [];
  loaded = None;
}

-- the node of a node's seat, and what the change knows by its own
abbrev pub node_of : View → NodeView
node_of v = slice_index_or v.nodes 0 unknown

abbrev pub change_of : View → ChangeView
change_of v = option_map_or (λ c. c) v.change nothing_done

-- whether a seat has the node of this slot, and the events that it has of it
abbrev pub is_among : List NodeView → ℕ → Bool
is_among nodes n = list_any (λ (v : NodeView). v.slot == n) nodes

abbrev pub log_in : List NodeView → ℕ → List Event
log_in [] n = []
log_in (v ∷ vs) n = if v.slot == n then v.log else log_in vs n

-- ---- seats that are given out and taken in

-- the node of the first slot whose seat wasn't given out, as the record has it
abbrev pub newest : ChangeView → NodeView
newest c = record {
  slot = c.seats;
  made = option_map_or slot_fields_of (slot (config_of c.entries) c.seats) unknown.made;
  known = nothing_known;
  log = [];
  loads = [];
  loaded = None;
}

-- its seat is given out: what the change is left with, and the new seat
abbrev pub without_seat : View → View
without_seat v = of_change v.nodes (record (change_of v) { seats = (change_of v).seats + 1 })

abbrev pub new_seat : View → View
new_seat v = of_node (newest (change_of v))

-- the change takes a node's seat in: for good, or for a sight, which it notes
abbrev pub with_seat : View → View → View
with_seat v w = of_change (node_of w ∷ v.nodes) (change_of v)

abbrev pub with_sight : View → View → View
with_sight v w = of_change (node_of w ∷ v.nodes) (notes (change_of v) (Sighted (node_of w).slot (node_of w).log))

-- and gives the seat out again that it took in last
abbrev pub given_out : View → View
given_out v = of_change (drop 1 v.nodes) (change_of v)

abbrev pub seat_again : View → View
seat_again v = of_node (node_of v)
