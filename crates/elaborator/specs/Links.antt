-- The links of an expansion: the provision of a node that a port is, and the target of a node's requirement.
use Rattle.std.specs.Prelude.{◌≡◌, ℕ, ◌<◌, ◌⊎◌, ◌↔◌, List, Option, Some, MatchOption, slice_get, Contains, All}
use Rattle.darwin_parser.specs.declared.tree.Side.TheVariants.{Provide}
use Rattle.darwin_parser.specs.Tree.{Name, Tree}
use Rattle.config_graph.specs.declared.kind.Kind.{Kind}
use Rattle.config_graph.specs.declared.node.Node.{Node}
use Rattle.config_graph.specs.declared.node.Link.{Link}
use Rattle.config_graph.specs.declared.node.Target.{Target}
use Rattle.config_graph.specs.Kinds.{row, Provision}
use Rattle.config_graph.specs.Graph.{OneLinkAPort, IsLinkWithin}
use Rattle.elaborator.specs.Instances.{Instance}
use Rattle.elaborator.specs.Graph.{node_of, port_at, IsLink}
use Rattle.elaborator.specs.Numbering.{Expanded, Numbered}
use Rattle.elaborator.specs.Ports.{IsPort}
use Rattle.elaborator.specs.declared.chains.PortId.{PortId}

-- a provision of the kind by its number and its name
pub record IsProvision (kind : Kind) (name : Name) (number : ℕ) : Type 0 where
  pub provision : Provision
  pub is_at : slice_get (row kind).provides number ≡ Some provision
  pub is_named : provision.name ≡ name

-- the answer to what provision has the name
abbrev pub IsProvisionNamed : Kind → Name → Option ℕ → Type 0
IsProvisionNamed kind name r = MatchOption r ((n : ℕ) → ¬ IsProvision kind name n) (IsProvision kind name)

-- a port is this provision of a node
pub record Provides (e : Expanded) (nodes : List Node) (id : PortId) (t : Target) : Type 0 where
  pub instance : Instance
  pub node : Node
  pub provision : Provision
  pub numbered : Numbered e id.instance instance
  pub is_node : node_of instance ≡ Some node
  pub stands : slice_get nodes t.node ≡ Some node
  pub provided : slice_get (row node.kind).provides t.provide ≡ Some provision
  pub is_port : IsPort e id (port_at instance Provide provision.name)

-- the answer to which one it is
abbrev pub IsProvided : Expanded → List Node → PortId → Option Target → Type 0
IsProvided e nodes id r = MatchOption r ((t : Target) → ¬ Provides e nodes id t) (Provides e nodes id)

abbrev pub link_to : ℕ → ℕ → Target → Link
link_to from require t = record { from = from; require = require; to = t.node; provide = t.provide }

-- the one target of a requirement
pub record IsTarget (tree : Tree) (top : Instance) (nodes : List Node) (from require : ℕ) (t : Target) : Type 0 where
  pub is_link : IsLink tree top nodes (link_to from require t)
  pub only : (u : Target) → IsLink tree top nodes (link_to from require u) → u ≡ t

-- the answer to which one it is
abbrev pub IsTargeted : Tree → Instance → List Node → ℕ → ℕ → Option Target → Type 0
IsTargeted tree top nodes from require r =
    MatchOption r ((t : Target) → ¬ IsLink tree top nodes (link_to from require t)) (IsTarget tree top nodes from require)

-- a link that begins before a requirement of a node
abbrev pub BeginsBefore : ℕ → ℕ → Link → Type 0
BeginsBefore from require l = (l.from < from) ⊎ ((l.from ≡ from) × (l.require < require))

-- the links that begin before a requirement of a node, no two at one port
pub record AreFirstLinks (tree : Tree) (top : Instance) (nodes : List Node) (from require : ℕ) (links : List Link) : Type 0 where
  pub sound : (l : Link) → Contains links l → IsLink tree top nodes l × BeginsBefore from require l
  pub complete : (l : Link) → IsLink tree top nodes l → BeginsBefore from require l → Contains links l
  pub one_a_port : OneLinkAPort links

-- all links
pub record AreLinks (tree : Tree) (top : Instance) (nodes : List Node) (links : List Link) : Type 0 where
  pub links_are : (l : Link) → Contains links l ↔ IsLink tree top nodes l
  pub within : All (IsLinkWithin nodes) links
  pub one_a_port : OneLinkAPort links
