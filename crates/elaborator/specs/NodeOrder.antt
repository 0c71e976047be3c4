-- The nodes of a description in the order of their paths.
use Rattle.std.specs.Prelude.{◌≡◌, ℕ, ◌<◌, ◌≤◌, true, List, Some, option_and_then, length, map, filter_map, slice_get, Contains, AllPairs}
use Rattle.std.specs.Ordering.{nat_cmp}
use Rattle.std.specs.Cmp.Lexicographic.{slice_cmp}
use Rattle.std.specs.declared.cmp.Ordering.TheVariants.{Less}
use Rattle.config_graph.specs.Graph.{PathsRise}
use Rattle.config_graph.specs.declared.node.Node.{Node}
use Rattle.elaborator.specs.Instances.{Instance}
use Rattle.elaborator.specs.Graph.{node_of}
use Rattle.elaborator.specs.Numbering.{Expanded, Numbered, NumberedInstance}
use Rattle.elaborator.specs.declared.nodes.Listed.{Listed}
use Rattle.darwin_types.specs.Scope.{is_primitive}
use Rattle.elaborator.specs.declared.nodes.Nodes.{Nodes}

-- the nodes among the first so many instances, in the order of their numbers
pub record AreListed (e : Expanded) (count : ℕ) (nodes : List Listed) : Type 0 where
  pub stands :
      (x : Listed) → Contains nodes x
      → (i : Instance) × (x.number < count) × Numbered e x.number i × (is_primitive i.component ≡ true) × (i.path ≡ x.path.now)
  pub all : (m : ℕ) (i : Instance) → m < count → Numbered e m i → is_primitive i.component ≡ true → (x : Listed)
      × Contains nodes x × (x.number ≡ m)
  pub rising : AllPairs (λ (x y : Listed). x.number < y.number) nodes
  pub few : length nodes ≤ count

-- the nodes that instances are, by their numbers
abbrev pub nodes_in : Expanded → List ℕ → List Node
nodes_in e numbers = filter_map (λ n. option_and_then (λ (x : NumberedInstance). node_of x.instance) (slice_get e.made n)) numbers

-- what the code keeps of a list of nodes, which is that of the expansion
pub record AreNodesOf (e : Expanded) (nodes : List Node) (n : Nodes) : Type 0 where
  pub paths_rise : PathsRise nodes
  pub node_at :
      (a : ℕ) (node : Node) → slice_get nodes a ≡ Some node
      → (k : ℕ) × (i : Instance) × (slice_get n.instances.items a ≡ Some k) × Numbered e k i × (node_of i ≡ Some node)
  pub place_at :
      (k : ℕ) (i : Instance) (node : Node) → Numbered e k i → node_of i ≡ Some node
      → (a : ℕ) × (slice_get nodes a ≡ Some node) × (slice_get n.places.items k ≡ Some (Some a))
  pub placed :
      (k a : ℕ) → slice_get n.places.items k ≡ Some (Some a)
      → (node : Node) × (i : Instance) × (slice_get nodes a ≡ Some node) × Numbered e k i × (node_of i ≡ Some node)
  pub all_placed : length n.places.items ≡ length e.made
  pub same_length : length n.instances.items ≡ length nodes
  pub kinds : n.kinds.items ≡ map (λ (x : Node). x.kind) nodes
  pub few : length nodes ≤ 65537

abbrev pub AreNodes : Expanded → Nodes → Type 0
AreNodes e n = AreNodesOf e (nodes_in e n.instances.items) n

-- the same of the first instances of an order
pub record AreFirstNodes (e : Expanded) (order : List ℕ) (first : ℕ) (nodes : List Node) (n : Nodes) : Type 0 where
  pub paths_rise : PathsRise nodes
  -- those to come have greater paths
  pub below :
      (a b m : ℕ) (node : Node) (i : Instance) → slice_get nodes a ≡ Some node → first ≤ b → slice_get order b ≡ Some m → Numbered e m i
      → slice_cmp nat_cmp node.path i.path ≡ Less
  pub node_at :
      (a : ℕ) (node : Node) → slice_get nodes a ≡ Some node
      → (k : ℕ) × (i : Instance) × (slice_get n.instances.items a ≡ Some k) × Numbered e k i × (node_of i ≡ Some node)
  pub place_at :
      (b k : ℕ) (i : Instance) (node : Node) → b < first → slice_get order b ≡ Some k → Numbered e k i → node_of i ≡ Some node
      → (a : ℕ) × (slice_get nodes a ≡ Some node) × (slice_get n.places.items k ≡ Some (Some a))
  pub placed :
      (k a : ℕ) → slice_get n.places.items k ≡ Some (Some a)
      → (node : Node) × (i : Instance) × (slice_get nodes a ≡ Some node) × Numbered e k i × (node_of i ≡ Some node)
  pub all_placed : length n.places.items ≡ length e.made
  pub same_length : length n.instances.items ≡ length nodes
  pub kinds : n.kinds.items ≡ map (λ (x : Node). x.kind) nodes
  pub few : length n.instances.items ≤ first

-- the numbers of the nodes, in the order of their paths
pub record IsInOrder (e : Expanded) (order : List ℕ) : Type 0 where
  pub rising :
      (a b m n : ℕ) (i j : Instance) → a < b → slice_get order a ≡ Some m → slice_get order b ≡ Some n → Numbered e m i → Numbered e n j
      → slice_cmp nat_cmp i.path j.path ≡ Less
  pub within : (a m : ℕ) → slice_get order a ≡ Some m → m < length e.made
  pub all : (m : ℕ) (i : Instance) → Numbered e m i → is_primitive i.component ≡ true → (a : ℕ) × (slice_get order a ≡ Some m)
  pub few : length order ≤ 65537
