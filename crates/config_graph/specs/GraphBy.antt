-- To be believed (definitions.md).
-- Graphs told by their nodes: which nodes there are, and which requirement of a node is linked to which provision of
-- a node.
use Rattle.std.specs.Prelude.{◌≡◌, ◌↔◌, ℕ, List, Some, slice_get, Contains}
use Rattle.config_graph.specs.Graph.{Graph, PathsRise, in_port_order}
use Rattle.config_graph.specs.Cycles.{IsLinked}
use Rattle.config_graph.specs.declared.node.Node.{Node}

-- the nodes at two places are linked: this requirement of the one to this provision of the other
pub record AreLinkedAt (Linked : Node → ℕ → Node → ℕ → Type 0) (nodes : List Node) (i require j provide : ℕ) : Type 0 where
  pub from : Node
  pub to : Node
  pub from_there : slice_get nodes i ≡ Some from
  pub to_there : slice_get nodes j ≡ Some to
  pub linked : Linked from require to provide

-- These nodes with these links are this graph: nodes stand in the order of their paths, byte by byte, and links in
-- that of their ports. So there is no other.
pub record IsGraphBy (IsNode : Node → Type 0) (Linked : Node → ℕ → Node → ℕ → Type 0) (g : Graph) : Type 0 where
  pub paths_rise : PathsRise g.nodes
  pub nodes_are : (node : Node) → Contains g.nodes node ↔ IsNode node
  pub links_are : (i require j provide : ℕ) → IsLinked g i require j provide ↔ AreLinkedAt Linked g.nodes i require j provide
  pub in_order : in_port_order g.nodes g.links ≡ g.links
