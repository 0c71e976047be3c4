-- To be believed (definitions.md).
-- Room for what is made: how many nodes and ports one run makes at most.
use Rattle.std.specs.Prelude.{◌≡◌, ◌<◌, ◌≤◌, ◌+◌, ℕ, length}
use Rattle.config_graph.specs.Graph.{Graph, ports}
use Rattle.config_graph.specs.declared.TheConstants.{MAX_NODES, MAX_PORTS}
use Rattle.config_graph.specs.declared.node.Made.{Made}
use Rattle.change_plan.specs.declared.error.PlanError.{PlanError}
use Rattle.change_plan.specs.declared.error.PlanError.TheVariants.{NodesFull, PortsFull}

-- so many nodes and ports can be made after those that were made
pub record HasRoom (made : Made) (nodes wanted_ports : ℕ) : Type 0 where
  pub nodes_fit : made.nodes + nodes ≤ MAX_NODES
  pub ports_fit : made.ports + wanted_ports ≤ MAX_PORTS

-- how many were made, and how many are wanted, carried by a refusal
pub record IsFullOf (limit made wanted carried_made carried_wanted : ℕ) : Type 0 where
  pub made_is : carried_made ≡ made
  pub wanted_is : carried_wanted ≡ wanted
  pub full : limit < made + wanted

-- what there is no room for
abbrev pub RoomFault : Made → ℕ → ℕ → PlanError → Type 0
RoomFault made nodes wanted_ports (NodesFull m w) = IsFullOf MAX_NODES made.nodes nodes m w
RoomFault made nodes wanted_ports (PortsFull m w) =
    (made.nodes + nodes ≤ MAX_NODES) × IsFullOf MAX_PORTS made.ports wanted_ports m w
RoomFault made nodes wanted_ports e = ⊥

-- there is room for all that a graph has, or not
abbrev pub HasRoomFor : Made → Graph → Type 0
HasRoomFor made g = HasRoom made (length g.nodes) (length (ports g.nodes))

abbrev pub LacksRoomFor : Made → Graph → PlanError → Type 0
LacksRoomFor made g e = RoomFault made (length g.nodes) (length (ports g.nodes)) e
