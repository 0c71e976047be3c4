-- To be believed (definitions.md).
-- What is there after a plan's steps: nodes as they are, by path, kind and argument, and connections between such
-- nodes.
use Rattle.std.specs.Prelude.{◌≡◌, ◌<◌, ◌⊎◌, ℕ, List, Some, slice_get, Contains}
use Rattle.config_graph.specs.Graph.{Graph, requires_at, target_of}
use Rattle.config_graph.specs.declared.node.Link.{Link}
use Rattle.config_graph.specs.declared.node.Node.{Node}
use Rattle.change_plan.specs.Differences.{IsTwin, link_port}
use Rattle.change_plan.specs.Touched.{SameTarget}
use Rattle.change_plan.specs.declared.plan_data.Plan.{Plan}

-- a node's requirement is connected to a node's provision
pub record Connection : Type 0 where
  pub from : Node
  pub require : ℕ
  pub to : Node
  pub provide : ℕ

-- a link of g makes a connection
pub record Connects (g : Graph) (l : Link) (c : Connection) : Type 0 where
  pub from : slice_get g.nodes l.from ≡ Some c.from
  pub require : l.require ≡ c.require
  pub to : slice_get g.nodes l.to ≡ Some c.to
  pub provide : l.provide ≡ c.provide

abbrev pub IsConnected : Graph → Connection → Type 0
IsConnected g c = (l : Link) × Contains g.links l × Connects g l c

-- one of these places of g has the node
abbrev pub IsAtOneOf : Graph → List ℕ → Node → Type 0
IsAtOneOf g places n = (i : ℕ) × Contains places i × (slice_get g.nodes i ≡ Some n)

-- a node that was there and isn't removed, or that is created
abbrev pub NodeAfter : Graph → Graph → Plan → Node → Type 0
NodeAfter old new p n = (Contains old.nodes n × (¬ IsAtOneOf old p.remove n)) ⊎ IsAtOneOf new p.create n

-- a connection that was there and isn't unlinked, or that is linked
abbrev pub ConnectionAfter : Graph → Graph → Plan → Connection → Type 0
ConnectionAfter old new p c =
    ((l : Link) × Contains old.links l × Connects old l c × (¬ Contains p.unlink (link_port l)))
    ⊎ ((l : Link) × Contains p.link l × Connects new l c)

-- node i of the old graph is in the new one, and there each of its ports has the same target
pub record KeepsItsLinks (old new : Graph) (i : ℕ) : Type 0 where
  pub twin : ℕ
  pub stays : IsTwin old new i twin
  pub same : (r : ℕ) → r < requires_at old.nodes i → SameTarget old new (target_of old.links i r) (target_of new.links twin r)

-- node j of the new graph is created, or is there already and frozen
abbrev pub MayBeRelinked : Graph → Graph → Plan → ℕ → Type 0
MayBeRelinked old new p j = Contains p.create j ⊎ ((i : ℕ) × IsTwin old new i j × Contains p.freeze i)
