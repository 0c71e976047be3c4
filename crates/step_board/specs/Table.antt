-- Which worlds a table shows, what it keeps of its nodes, and for what it has memory.
use Rattle.std.specs.Prelude.{◌≡◌, ℕ, ◌<◌, true, min, nat_lt, List, map, length, Option, None}
use Rattle.std.specs.Option.{option_map_or}
use Rattle.component_trait.specs.States.{NodeState}
use Rattle.config_graph.specs.declared.node.Node.{Node}
use Rattle.port_queue.specs.contracts.plain.PlainHintsHints.TheImpl.{ghosts as hints}
use Rattle.port_queue.specs.declared.plain.PlainHints.{PlainHints}
use Rattle.quiesce_core.specs.Rules.{denial}
use Rattle.quiesce_core.specs.State.{State}
use Rattle.quiesce_core.specs.declared.event.Event.{Event}
use Rattle.quiesce_core.specs.declared.event.Event.TheVariants.{Make}
use Rattle.state_handover.specs.declared.any_node.AnyNode.{AnyNode}
use Rattle.node_turn_laws.specs.World.{World, with_event}
use Rattle.step_board.specs.Entries.{SlotEntry, log_in}
use Rattle.step_board.specs.Seen.{component_state, seen}
use Rattle.step_board.specs.Worlds.{ShowsIn}
use Rattle.step_board.specs.declared.table.NodeTable.{NodeTable}

-- the machine's state
abbrev pub machine : NodeTable → State
machine t = t.gate.core.state

-- one entry a slot; the first argument tells the state of a component
abbrev pub entries : (AnyNode → NodeState) → NodeTable → List SlotEntry
entries state_of t = map (seen state_of) t.nodes.items

-- All is as in this world: the machine's state, what each node has come to, the hints in the inboxes and those that
-- wait; and what each node made did in the world's events is its log, wherever that lies. The second argument tells
-- what the inboxes hold.
abbrev pub ShowsWorld : (AnyNode → NodeState) → (PlainHints → ℕ → Option (List ℕ)) → NodeTable → World → Type 0
ShowsWorld state_of tells t w = ShowsIn (machine t) (entries state_of t) t.line_ends.items (tells t.hints) w

-- and as tables have them
abbrev pub Shows : NodeTable → World → Type 0
Shows t w = ShowsWorld component_state hints.tells t w

-- In a world that the table shows no rule denies the event; and what showed a world shows it with the event. A node is
-- made in the next slot.
abbrev pub MayShowNext : NodeTable → Event → Type 0
MayShowNext t e = (w : World) × Shows t w × (denial w.machine e ≡ None)

abbrev pub ShowsNext : NodeTable → NodeTable → Event → Type 0
ShowsNext t t' e = (w : World) → Shows t w → Shows t' (with_event w e)

abbrev pub make_next : World → Node → Option ℕ → Event
make_next w n from = Make (length w.machine.config.slots) n from

abbrev pub MayShowMade : NodeTable → Node → Option ℕ → Type 0
MayShowMade t n from = (w : World) × Shows t w × (denial w.machine (make_next w n from) ≡ None)

abbrev pub ShowsMade : NodeTable → NodeTable → Node → Option ℕ → Type 0
ShowsMade t t' n from = (w : World) → Shows t w → Shows t' (with_event w (make_next w n from))

-- what each node made did, by slot
abbrev pub logs : (AnyNode → NodeState) → NodeTable → List (List Event)
logs state_of t = map (log_in (entries state_of t) t.line_ends.items) (entries state_of t)

abbrev pub entries_of : NodeTable → List SlotEntry
entries_of t = entries component_state t

abbrev pub logs_of : NodeTable → List (List Event)
logs_of t = logs component_state t

-- there is memory for so many nodes more, each of which may take over the state of one in a slot below `sources`
abbrev pub spare : NodeTable → ℕ
spare t = min t.spare t.gate.core.spare

abbrev pub sources : NodeTable → ℕ
sources t = t.sources

pub record TableHasRoom (t : NodeTable) (from : Option ℕ) : Type 0 where
  pub node : 0 < spare t
  pub source : option_map_or (λ k. nat_lt k (sources t)) from true ≡ true

pub record KeepsRoom (old new : NodeTable) : Type 0 where
  pub spare_kept : spare new ≡ spare old
  pub sources_kept : sources new ≡ sources old
