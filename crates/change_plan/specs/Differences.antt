-- To be believed (definitions.md).
-- What one graph has and another hasn't. A node of the one and a node of the other are the same exactly where path,
-- kind and argument are equal; links are compared through the nodes at which they begin and end.
use Rattle.std.specs.Prelude.{◌≡◌, ℕ, List, Some, length, map, slice_get, Contains}
use Rattle.std.specs.List.{range_with_len}
use Rattle.config_graph.specs.Graph.{Graph}
use Rattle.config_graph.specs.declared.node.Link.{Link}
use Rattle.config_graph.specs.declared.node.Node.{Node}
use Rattle.change_plan.specs.Selects.{Selects}
use Rattle.config_graph.specs.declared.node.Port.{Port}

-- node i of g and node j of h are the same
pub record IsTwin (g h : Graph) (i j : ℕ) : Type 0 where
  pub node : Node
  pub here : slice_get g.nodes i ≡ Some node
  pub there : slice_get h.nodes j ≡ Some node

-- node i of g isn't in h
pub record IsGone (g h : Graph) (i : ℕ) : Type 0 where
  pub node : Node
  pub here : slice_get g.nodes i ≡ Some node
  pub gone : ¬ Contains h.nodes node

-- link k of g and link l of h are the same
pub record IsSameLink (g h : Graph) (k l : Link) : Type 0 where
  pub from : IsTwin g h k.from l.from
  pub require : k.require ≡ l.require
  pub to : IsTwin g h k.to l.to
  pub provide : k.provide ≡ l.provide

abbrev pub IsKeptLink : Graph → Graph → Link → Type 0
IsKeptLink g h k = (l : Link) × Contains h.links l × IsSameLink g h k l

-- the nodes of g that aren't in h, by their places in g
abbrev pub GoneNodes : Graph → Graph → List ℕ → Type 0
GoneNodes g h nodes = Selects (IsGone g h) (range_with_len 0 (length g.nodes)) nodes

-- the links of g that aren't in h
abbrev pub GoneLinks : Graph → Graph → List Link → Type 0
GoneLinks g h links = Selects (λ k. ¬ IsKeptLink g h k) g.links links

-- the ports at which they begin
abbrev pub link_port : Link → Port
link_port l = record { node = l.from; require = l.require }

abbrev pub GonePorts : Graph → Graph → List Port → Type 0
GonePorts g h ports = (links : List Link) × GoneLinks g h links × (ports ≡ map link_port links)
