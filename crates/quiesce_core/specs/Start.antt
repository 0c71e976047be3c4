-- To be believed (definitions.md).
-- The state of a system that was started as a graph says: its nodes in slots 0, 1 and on, their ports numbered in
-- that order, linked, open and idle.
use Rattle.std.specs.Prelude.{ℕ, true, false, List, map, Option, None}
use Rattle.std.specs.List.{enumerate_from}
use Rattle.config_graph.specs.Graph.{Graph, first_port, ports, target_of}
use Rattle.config_graph.specs.declared.node.Node.{Node}
use Rattle.config_graph.specs.declared.node.Port.{Port}
use Rattle.quiesce_core.specs.declared.state.Slot.{Slot}
use Rattle.quiesce_core.specs.declared.state.Gate.{Gate}
use Rattle.quiesce_core.specs.declared.state.Service.{Service}
use Rattle.quiesce_core.specs.declared.state.Exchange.{Exchange}
use Rattle.quiesce_core.specs.State.{State, fresh_exchange}

-- node i of the graph in its slot
abbrev pub slot_of : List Node → ℕ × Node → Slot
slot_of nodes p = record { node = p.1; first_port = first_port nodes p.0; from = None; live = true }

-- a port of the graph, linked as it is there
abbrev pub gate_of : Graph → Port → Gate
gate_of g p = record { owner = p.node; require = p.require; closed = false; target = target_of g.links p.node p.require }

-- a node that has just started services nothing, and nothing was done at a port
abbrev pub no_service : Node → Option Service
no_service n = None

abbrev pub no_exchange : Port → Exchange
no_exchange p = fresh_exchange

abbrev pub started : Graph → State
started g =
    record {
      config = record { slots = map (slot_of g.nodes) (enumerate_from 0 g.nodes); gates = map (gate_of g) (ports g.nodes) };
      traffic = record { services = map no_service g.nodes; exchanges = map no_exchange (ports g.nodes) };
    }
