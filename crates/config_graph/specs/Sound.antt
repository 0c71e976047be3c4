-- To be believed (definitions.md).
-- Sound graphs: those that a description gives and that may be run.
use Rattle.std.specs.Prelude.{◌≡◌, ◌<◌, All, IfSome, is_some}
use Rattle.config_graph.specs.Kinds.{row}
use Rattle.config_graph.specs.Graph.{Graph, IsLinkWithin, PathsRise, in_port_order}
use Rattle.config_graph.specs.Cycles.{graph_wiring}
use Rattle.config_graph.specs.Wiring.{HasNoCycle}
use Rattle.config_graph.specs.declared.TheConstants.{VALUE_LIMIT}
use Rattle.config_graph.specs.declared.node.Node.{Node}

-- an argument, which is a value, is there exactly where the kind has one
pub record HasItsArgument (n : Node) : Type 0 where
  pub present : is_some n.arg ≡ is_some (row n.kind).arg
  pub below : IfSome n.arg (λ a. a < VALUE_LIMIT)

pub record Sound (g : Graph) : Type 0 where
  pub paths_rise : PathsRise g.nodes
  pub arguments : All HasItsArgument g.nodes
  pub within : All (IsLinkWithin g.nodes) g.links
  pub in_order : in_port_order g.nodes g.links ≡ g.links
  pub no_cycle : HasNoCycle (graph_wiring g)
