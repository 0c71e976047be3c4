-- Where the nodes of a graph stand on a board, and whose requirements its ports are.
use Rattle.std.specs.Prelude.{◌≡◌, ◌==◌, ℕ, Bool, false, List, filter, length, map, slice_get, Option, None, is_some, option_and_then, if◌then◌else◌}
use Rattle.std.specs.List.{list_any, range_with_len}
use Rattle.std.specs.Option.{option_map_or}
use Rattle.config_graph.specs.Graph.{Graph, index_of}
use Rattle.config_graph.specs.declared.node.Port.{Port}
use Rattle.quiesce_core.specs.State.{Configuration}
use Rattle.quiesce_core.specs.declared.state.Gate.{Gate}
use Rattle.quiesce_core.specs.declared.state.Slot.{Slot}
use Rattle.change_lists.specs.declared.layout.Layout.{Layout}

-- the place of the node in a slot, where it is live
abbrev pub place_at : List (Option ℕ) → ℕ → Option ℕ
place_at places n = option_and_then (λ o. o) (slice_get places n)

-- whether this is the place, and whether it is one of these
abbrev pub is_place : ℕ → Option ℕ → Bool
is_place i place = option_map_or (λ j. j == i) place false

abbrev pub is_among : List ℕ → Option ℕ → Bool
is_among list place = option_map_or (λ j. list_any (λ i. j == i) list) place false

-- whether the owner of a port is live
abbrev pub is_live_at : List (Option ℕ) → List Port → ℕ → Bool
is_live_at places ports p = option_map_or (λ (x : Port). is_some (place_at places x.node)) (slice_get ports p) false

abbrev pub live_at : List (Option ℕ) → List Port → List ℕ
live_at places ports = filter (is_live_at places ports) (range_with_len 0 (length ports))

-- the place in a graph of the node that was made in a slot, while it is live; and of a port whose requirement it is
abbrev pub place_in : Graph → Slot → Option ℕ
place_in g m = if m.live then index_of g.nodes m.node.path else None

abbrev pub port_of : Gate → Port
port_of x = record { node = x.owner; require = x.require }

-- a layout tells all slots and ports of a configuration whose graph is this
pub record IsLayoutOf (l : Layout) (c : Configuration) (g : Graph) : Type 0 where
  pub places_are : l.places.items ≡ map (place_in g) c.slots
  pub ports_are : l.ports.items ≡ map port_of c.gates
