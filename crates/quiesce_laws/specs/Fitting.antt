-- To be believed (definitions.md).
-- How a configuration lies in a graph: which of its links are links of the graph, and when it is a part of it.
use Rattle.std.specs.Prelude.{◌≡◌, ℕ, Some, Contains}
use Rattle.config_graph.specs.Cycles.{IsLinked}
use Rattle.config_graph.specs.Graph.{Graph}
use Rattle.config_graph.specs.declared.node.Node.{Node}
use Rattle.config_graph.specs.declared.node.Target.{Target}
use Rattle.quiesce_core.specs.Live.{IsLiveAt, StandsAt}
use Rattle.quiesce_core.specs.State.{Configuration, gate, owner, target}

-- port p is requirement r of the live node at place i, and t is provision x of the live node at place j
pub record Stands (d : Configuration) (g : Graph) (p : ℕ) (t : Target) (i r j x : ℕ) : Type 0 where
  pub from_there : StandsAt d g.nodes (owner d p) i
  pub requirement : (gate d p).require ≡ r
  pub to_there : StandsAt d g.nodes t.node j
  pub provision : t.provide ≡ x

-- the graph has a link from port p to t
pub record Fits (d : Configuration) (g : Graph) (p : ℕ) (t : Target) : Type 0 where
  pub i : ℕ
  pub r : ℕ
  pub j : ℕ
  pub x : ℕ
  pub stands : Stands d g p t i r j x
  pub linked : IsLinked g i r j x

-- each link is one of the graph
abbrev pub LinksFit : Configuration → Graph → Type 0
LinksFit d g = (p : ℕ) (t : Target) → target d p ≡ Some t → Fits d g p t

-- a link of c that is one of the graph
pub record KeptLink (c : Configuration) (g : Graph) (p : ℕ) (t : Target) : Type 0 where
  pub leads : target c p ≡ Some t
  pub fits : Fits c g p t

-- no two live nodes have one path
abbrev pub PathsApart : Configuration → Type 0
PathsApart d = (n k : ℕ) (a b : Node) → IsLiveAt d n a → IsLiveAt d k b → a.path ≡ b.path → n ≡ k

-- the configuration is a part of the graph: its live nodes and its links are some of the graph's
pub record IsPart (d : Configuration) (g : Graph) : Type 0 where
  pub nodes : (n : ℕ) (node : Node) → IsLiveAt d n node → Contains g.nodes node
  pub links : LinksFit d g
