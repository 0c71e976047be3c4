-- The ports, by number, whose transactions may lead to a transaction of a port.
use Rattle.std.specs.Prelude.{◌≡◌, ◌<◌, ℕ, Bool, List, Some, slice_get, Contains, IsTrue}
use Rattle.config_graph.specs.Cycles.{depends_at}
use Rattle.config_graph.specs.Graph.{Graph, incoming_ports, ports, provides_at}
use Rattle.config_graph.specs.declared.node.Port.{Port}
use Rattle.config_graph.specs.Marks.{IsMarked}

-- one of the first numbers has P
abbrev pub SomeBelow : ℕ → (ℕ → Type 0) → Type 0
SomeBelow count P = (k : ℕ) × (k < count) × P k

-- port p is linked to one of node n's first provisions
abbrev pub FeedsNode : Graph → ℕ → ℕ → ℕ → Type 0
FeedsNode g n count p = SomeBelow count (λ x. Contains (incoming_ports g n x) p)

-- port p is linked to one of the first nodes, which is marked
abbrev pub FeedsMarked : Graph → List Bool → ℕ → ℕ → Type 0
FeedsMarked g marks count p =
    SomeBelow count (λ n. IsMarked marks n × FeedsNode g n (provides_at g.nodes n) p)

-- port p is linked to one of node n's first provisions, which depends on a requirement of n
abbrev pub FeedsPort : Graph → ℕ → ℕ → ℕ → ℕ → Type 0
FeedsPort g n require count p =
    SomeBelow count (λ x. IsTrue (depends_at g.nodes n x require) × Contains (incoming_ports g n x) p)

-- port q is linked to a provision that depends on port p
pub record Feeds (g : Graph) (p q : ℕ) : Type 0 where
  pub port : Port
  pub at : slice_get (ports g.nodes) p ≡ Some port
  pub feeds : FeedsPort g port.node port.require (provides_at g.nodes port.node) q

-- the least set that has these ports and each port that feeds one of it
pub data Closure (g : Graph) (start : List ℕ) : ℕ → Type 0 where
  first : {p : ℕ} → Contains start p → Closure g start p
  onward : {p q : ℕ} → Closure g start p → Feeds g p q → Closure g start q

-- node i has one of these ports
pub record Owns (g : Graph) (ports_ : List ℕ) (i : ℕ) : Type 0 where
  pub number : ℕ
  pub require : ℕ
  pub there : Contains ports_ number
  pub at : slice_get (ports g.nodes) number ≡ Some (record { node = i; require = require })
