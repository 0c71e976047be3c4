-- The nodes of two graphs, each once, in the order of their paths: each has its place in that list as a number.
use Rattle.std.specs.Prelude.{◌≡◌, ◌<◌, ◌⊎◌, ◌↔◌, ℕ, Bool, List, Some, length, slice_get, Contains}
use Rattle.std.specs.Ordering.{is_lt, nat_cmp}
use Rattle.std.specs.Cmp.Lexicographic.{slice_cmp}
use Rattle.config_graph.specs.Graph.{Graph, IsGraph}
use Rattle.config_graph.specs.Marks.{IsMarked}
use Rattle.config_graph.specs.declared.node.Node.{Node}
use Rattle.change_parts.specs.Groups.{IsBefore}
use Rattle.change_parts.specs.declared.members.Members.{Members}

-- whether a node's path stands before that of another
abbrev pub path_below : Node → Node → Bool
path_below m n = is_lt (slice_cmp nat_cmp m.path n.path)

-- no node stands at two places
abbrev pub IsOnce : List Node → Type 0
IsOnce nodes = (a b : ℕ) (n : Node) → slice_get nodes a ≡ Some n → slice_get nodes b ≡ Some n → a ≡ b

-- the nodes of both graphs, in the order of their paths
pub record AreMembers (old new : Graph) (nodes : List Node) : Type 0 where
  pub all : (n : Node) → Contains old.nodes n ⊎ Contains new.nodes n → Contains nodes n
  pub only : (n : Node) → Contains nodes n → Contains old.nodes n ⊎ Contains new.nodes n
  pub once : IsOnce nodes
  pub ordered : (a b : ℕ) (m n : Node) → a < b → slice_get nodes a ≡ Some m → slice_get nodes b ≡ Some n
      → ¬ IsBefore n.path m.path

-- of each node of a graph, its number
pub record AreNumbers (placed nodes : List Node) (numbers : List ℕ) : Type 0 where
  pub long : length numbers ≡ length placed
  pub are : (i : ℕ) (n : Node) → slice_get placed i ≡ Some n
      → (k : ℕ) × (slice_get numbers i ≡ Some k) × (slice_get nodes k ≡ Some n)

-- of each number, whether its node stands in a graph
pub record MarksNodes (g : Graph) (nodes : List Node) (marks : List Bool) : Type 0 where
  pub long : length marks ≡ length nodes
  pub are : (k : ℕ) (n : Node) → slice_get nodes k ≡ Some n → IsMarked marks k ↔ Contains g.nodes n

pub record IsIndex (old new : Graph) (m : Members) : Type 0 where
  pub old_graph : IsGraph old
  pub new_graph : IsGraph new
  pub members : AreMembers old new m.nodes.items
  pub of_old : AreNumbers old.nodes m.nodes.items m.of_old.items
  pub of_new : AreNumbers new.nodes m.nodes.items m.of_new.items
  pub in_old : MarksNodes old m.nodes.items m.in_old.items
  pub in_new : MarksNodes new m.nodes.items m.in_new.items
