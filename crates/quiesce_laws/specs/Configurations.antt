-- How an earlier configuration stands in a later one.
use Rattle.std.specs.Prelude.{◌≡◌, ℕ, ◌<◌, ◌≤◌, length, Some}
use Rattle.config_graph.specs.declared.node.Target.{Target}
use Rattle.quiesce_core.specs.declared.state.Slot.{Slot}
use Rattle.quiesce_core.specs.State.{Configuration, slot, gate, owner, target}

-- the node in slot n is this one, live or not
pub record HasNode (d : Configuration) (n : ℕ) (m : Slot) : Type 0 where
  pub now : Slot
  pub there : slot d n ≡ Some now
  pub same_node : now.node ≡ m.node
  pub same_port : now.first_port ≡ m.first_port

-- the later configuration has the nodes and ports of the earlier, and perhaps more
pub record Extends (c d : Configuration) : Type 0 where
  pub nodes : (n : ℕ) (m : Slot) → slot c n ≡ Some m → HasNode d n m
  pub owners : (q : ℕ) → q < length c.gates → owner d q ≡ owner c q
  pub requirements : (q : ℕ) → q < length c.gates → (gate d q).require ≡ (gate c q).require
  pub many : length c.gates ≤ length d.gates

-- each link of the later configuration is one of the earlier
pub record HasNoNewLink (c d : Configuration) : Type 0 where
  pub old : (q : ℕ) (t : Target) → target d q ≡ Some t → target c q ≡ Some t
