-- To be believed (definitions.md).
-- What holds of the state after every run.
use Rattle.std.specs.Prelude.{◌≡◌, ℕ, ◌+◌, ◌<◌, ◌≤◌, length, true, Some, IsTrue}
use Rattle.config_graph.specs.Kinds.{row}
use Rattle.config_graph.specs.declared.node.Target.{Target}
use Rattle.config_graph.specs.declared.TheConstants.{MAX_NODES, MAX_PORTS}
use Rattle.quiesce_core.specs.declared.state.Slot.{Slot}
use Rattle.quiesce_core.specs.declared.state.Exchange.{Exchange}
use Rattle.quiesce_core.specs.Rules.{last_serial, value_limit}
use Rattle.quiesce_core.specs.State.{Configuration, State, slot, gate, owner, target, exchange, provides, is_live}
use Rattle.quiesce_core.specs.Reach.{IsPortOf, has_no_cycle}

-- the ports of the node in slot n stand in a row, in the order of its requirements
pub record StandInARow (c : Configuration) (n : ℕ) (m : Slot) : Type 0 where
  pub within : m.first_port + length (row m.node.kind).requires_ ≤ length c.gates
  pub owned : (r : ℕ) → r < length (row m.node.kind).requires_ → owner c (m.first_port + r) ≡ n
  pub in_order : (r : ℕ) → r < length (row m.node.kind).requires_ → (gate c (m.first_port + r)).require ≡ r

-- a port leads to a provision of a live node
pub record LeadsToProvision (c : Configuration) (t : Target) : Type 0 where
  pub live : IsTrue (is_live c t.node)
  pub provided : t.provide < provides c t.node

pub record IsSound (c : Configuration) : Type 0 where
  pub few_nodes : length c.slots ≤ MAX_NODES
  pub few_ports : length c.gates ≤ MAX_PORTS
  pub rows : (n : ℕ) (m : Slot) → slot c n ≡ Some m → StandInARow c n m
  pub ports : (p : ℕ) → p < length c.gates → IsPortOf c (owner c p) p
  pub targets : (p : ℕ) (t : Target) → target c p ≡ Some t → LeadsToProvision c t
  pub no_cycle : has_no_cycle c ≡ true

-- a serial and a value are within their bounds
pub record IsWithinBounds (x : Exchange) : Type 0 where
  pub serial : x.serial ≤ last_serial
  pub value : x.value < value_limit

pub record IsWellFormed (s : State) : Type 0 where
  pub sound : IsSound s.config
  pub services : length s.traffic.services ≡ length s.config.slots
  pub exchanges : length s.traffic.exchanges ≡ length s.config.gates
  pub bounds : (p : ℕ) → IsWithinBounds (exchange s p)
