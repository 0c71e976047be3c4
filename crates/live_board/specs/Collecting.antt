-- How all nodes are taken in, and what is told of them.
use Rattle.std.specs.Prelude.{◌≡◌, ℕ, ◌<◌, Bool, true, List, map, flat_map, length, Option, Some, None, slice_get, slice_index_or, slice_set, All}
use Rattle.std.specs.List.{AllByRecursion, range_with_len}
use Rattle.std.specs.Option.{option_map_or}
use Rattle.atomic_table.specs.Seated.{TableId}
use Rattle.change_board.specs.Collecting.{IsEndOf, first_undone}
use Rattle.change_board.specs.declared.board.Collected.{Collected}
use Rattle.component_trait.specs.Moves as moves
use Rattle.component_trait.specs.States.{NodeState}
use Rattle.config_graph.specs.declared.TheConstants.{MAX_NODES}
use Rattle.live_hall.specs.Houses.{IsAt}
use Rattle.live_hall.specs.Sighting.{IsMadeIn, views_of}
use Rattle.live_hall.specs.declared.guest.Guest.{Guest}
use Rattle.live_board.specs.Lengths.{length_at}
use Rattle.quiesce_core.specs.State.{Configuration}
use Rattle.quiesce_core.specs.declared.event.Event.{Event}
use Rattle.report_types.specs.declared.report.Last.{Last}
use Rattle.report_types.specs.declared.report.Last.TheVariants.{State, Moved}
use Rattle.report_types.specs.declared.report.NodeLog.{NodeLog}
use Rattle.state_handover.specs.declared.any_node.AnyNode.{AnyNode}
use Rattle.txn_gate.specs.Seats.{change_in, collected_in, record_of, table_of_change}
use Rattle.txn_gate.specs.declared.change_seat.ChangeSeat.{ChangeSeat}
use Rattle.txn_records.specs.Entries.{config_of}
use Rattle.txn_spec.specs.declared.view.NodeView.{NodeView}
use Rattle.txn_spec.specs.Views.{is_among, log_in}

-- one of them
abbrev pub IsOf : {A : Type 0} → List A → A → Type 0
IsOf xs x = (k : ℕ) × (slice_get xs k ≡ Some x)

-- a node that was taken out of the hall of these gates
pub record LiesAt (gates : TableId) (x : Guest) : Type 0 where
  pub slot : x.node.slot < MAX_NODES
  pub at : IsAt gates x

-- How the log of slot n ends, and whether its node is done: it went on to the heir, or is among these nodes.
pub record TellsEnd (S : AnyNode → NodeState) (heir : Option ℕ) (n : ℕ) (guests : List Guest) (last : Last) (done : Bool) : Type 0 where
  pub moved : (j : ℕ) → heir ≡ Some j → last ≡ Moved j
  pub kept : heir ≡ None → (x : Guest) × IsOf guests x × (x.node.slot ≡ n) × (last ≡ State (moves.numbers (S x.node.inner))) × (done ≡ moves.is_done (S x.node.inner))

-- so it is told of each slot below this
pub record AreTold (S : AnyNode → NodeState) (heirs : List (Option ℕ)) (slots : ℕ) (guests : List Guest) (logs : List NodeLog) (dones : List Bool) : Type 0 where
  pub count : length logs ≡ slots
  pub flags : length dones ≡ slots
  pub slots_are : map (λ (l : NodeLog). l.slot) logs ≡ range_with_len 0 slots
  pub told : (n : ℕ) (l : NodeLog) → slice_get logs n ≡ Some l → TellsEnd S (length_at heirs n) n guests l.last (slice_index_or dones n true)

-- with these events in one place
abbrev pub with_events : List NodeLog → ℕ → List Event → List NodeLog
with_events logs n es = option_map_or (λ (l : NodeLog). slice_set logs n (record l { events = es })) (slice_get logs n) logs

-- the log that stands in place n is that of a node of this slot that was taken in
pub record IsShown (nodes : List NodeView) (logs : List NodeLog) (n : ℕ) : Type 0 where
  pub node : NodeView
  pub among : IsOf nodes node
  pub slot_is : node.slot ≡ n
  pub log : (l : NodeLog) → slice_get logs n ≡ Some l → l.events ≡ node.log

pub record IsTakenIn (c : Configuration) (nodes : List NodeView) (logs : List NodeLog) (v : NodeView) : Type 0 where
  pub made : IsMadeIn c v
  pub among : IsOf nodes v
  pub shown : IsShown nodes logs v.slot

-- these were taken in, and what was taken in before is so still
pub record Grew (c : Configuration) (nodes nodes' : List NodeView) (logs logs' : List NodeLog) (vs : List NodeView) : Type 0 where
  pub all : AllByRecursion (IsTakenIn c nodes' logs') vs
  pub kept : (v : NodeView) → IsOf nodes v → IsOf nodes' v
  pub shown : (n : ℕ) → IsShown nodes logs n → IsShown nodes' logs' n
  pub slots : map (λ (l : NodeLog). l.slot) logs' ≡ map (λ (l : NodeLog). l.slot) logs
  pub lasts : map (λ (l : NodeLog). l.last) logs' ≡ map (λ (l : NodeLog). l.last) logs

-- the change took these in, and its record is as it was
pub record TookIn (vs : List NodeView) (old new : ChangeSeat) (logs logs' : List NodeLog) : Type 0 where
  pub here : table_of_change new ≡ table_of_change old
  pub change : change_in new ≡ change_in old
  pub spare : new.spare ≡ old.spare
  pub grew : Grew (config_of (record_of old)) (collected_in old) (collected_in new) logs logs' vs

-- the views of the nodes of all these lines
abbrev pub all_views : List Guest → List NodeView
all_views guests = flat_map views_of guests

-- what is given at the end, where all these nodes were taken in
abbrev pub all_logs : Configuration → List NodeView → List (List Event)
all_logs c nodes = map (log_in nodes) (range_with_len 0 (length c.slots))

pub record Gathers (c : Configuration) (nodes : List NodeView) (x : Collected) : Type 0 where
  pub events : map (λ (l : NodeLog). l.events) x.logs ≡ all_logs c nodes
  pub slots : map (λ (l : NodeLog). l.slot) x.logs ≡ range_with_len 0 (length c.slots)
  pub ends : All (IsEndOf c (all_logs c nodes)) x.logs
  pub undone : x.undone ≡ first_undone c (all_logs c nodes)
  pub all : (n : ℕ) → n < length c.slots → is_among nodes n ≡ true
