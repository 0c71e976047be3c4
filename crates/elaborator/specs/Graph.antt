-- To be believed (definitions.md).
-- The graph of an elaboration: its nodes are the instances of primitive components, and a requirement of a node is
-- linked to a provision of a node where a list of bindings leads from the one to the other.
use Rattle.std.specs.Prelude.{◌≡◌, ℕ, ℤ, pos, negsuc, List, Option, Some, None, option_map, slice_get, if◌then◌else◌}
use Rattle.darwin_parser.specs.declared.tree.Side.{Side}
use Rattle.darwin_parser.specs.declared.tree.Side.TheVariants.{Provide, Require}
use Rattle.darwin_parser.specs.Tree.{Name, Tree}
use Rattle.darwin_types.specs.Scope.{is_primitive}
use Rattle.config_graph.specs.declared.kind.Kind.{Kind}
use Rattle.config_graph.specs.declared.node.Node.{Node}
use Rattle.config_graph.specs.declared.node.Link.{Link}
use Rattle.config_graph.specs.Kinds.{kind_named, row, Provision}
use Rattle.config_graph.specs.Graph.{Graph}
use Rattle.config_graph.specs.GraphBy.{AreLinkedAt, IsGraphBy}
use Rattle.elaborator.specs.Instances.{Instance, Inst}
use Rattle.elaborator.specs.Bindings.{Port, BoundThrough}

-- an argument of a kind, which is 0 or more
abbrev pub natural : ℤ → ℕ
natural (pos n) = n
natural (negsuc n) = 0

-- the node of a kind that an instance is
abbrev pub node_with : Instance → Kind → Node
node_with i kind = record { path = i.path; kind = kind; arg = option_map (λ v. natural v.value) (slice_get i.env 0) }

-- the node that an instance of a primitive component is
abbrev pub node_of : Instance → Option Node
node_of i = if is_primitive i.component then option_map (node_with i) (kind_named i.component.name) else None

-- the instance of a node
pub record IsNode (tree : Tree) (top : Instance) (n : Node) : Type 0 where
  pub instance : Instance
  pub is_instance : Inst tree top instance
  pub is_node : node_of instance ≡ Some n

-- the port of an instance that has the name
abbrev pub port_at : Instance → Side → Name → Port
port_at i side name = record { path = i.path; depth = i.depth; side = side; name = name; index = None }

-- a requirement of one node is linked to a provision of another, each by its number
pub record Linked (tree : Tree) (top : Instance) (a : Node) (require : ℕ) (b : Node) (provide : ℕ) : Type 0 where
  pub from : IsNode tree top a
  pub to : IsNode tree top b
  pub required : Name
  pub provided : Provision
  pub requires_it : slice_get (row a.kind).requires_ require ≡ Some required
  pub provides_it : slice_get (row b.kind).provides provide ≡ Some provided
  pub leads : BoundThrough tree top (port_at from.instance Require required) (port_at to.instance Provide provided.name)

-- a link of the graph, which names its nodes by their places in the list
abbrev pub IsLink : Tree → Instance → List Node → Link → Type 0
IsLink tree top nodes l = AreLinkedAt (Linked tree top) nodes l.from l.require l.to l.provide

-- the graph of the elaboration with this top
abbrev pub IsElab : Tree → Instance → Graph → Type 0
IsElab tree top g = IsGraphBy (IsNode tree top) (Linked tree top) g

-- the port that a requirement of the node at a place is
pub record IsRequirementAt (tree : Tree) (top : Instance) (nodes : List Node) (place require : ℕ) (x : Port) : Type 0 where
  pub node : Node
  pub instance : Instance
  pub name : Name
  pub stands : slice_get nodes place ≡ Some node
  pub is_instance : Inst tree top instance
  pub is_node : node_of instance ≡ Some node
  pub requires_it : slice_get (row node.kind).requires_ require ≡ Some name
  pub is_port : x ≡ port_at instance Require name

-- the port that a provision of the node at a place is
pub record IsProvisionAt (tree : Tree) (top : Instance) (nodes : List Node) (place provide : ℕ) (x : Port) : Type 0 where
  pub node : Node
  pub instance : Instance
  pub provision : Provision
  pub stands : slice_get nodes place ≡ Some node
  pub is_instance : Inst tree top instance
  pub is_node : node_of instance ≡ Some node
  pub provides_it : slice_get (row node.kind).provides provide ≡ Some provision
  pub is_port : x ≡ port_at instance Provide provision.name
