-- The configuration that tables of nodes and gates stand for, and the room in them.
use Rattle.std.specs.Prelude.{◌≤◌, vec_capacity}
use Rattle.config_graph.specs.declared.TheConstants.{MAX_NODES, MAX_PORTS}
use Rattle.quiesce_core.specs.State.{Configuration}
use Rattle.quiesce_core.specs.declared.links.Links.{Links}

abbrev pub config_in : Links → Configuration
config_in t = record { slots = t.slots.items; gates = t.gates.items }

-- there is room for all nodes and ports that can be made
pub record HasRoomForAll (t : Links) : Type 0 where
  pub slots : MAX_NODES ≤ vec_capacity t.slots
  pub gates : MAX_PORTS ≤ vec_capacity t.gates

-- no room was lost
pub record KeepsCapacity (old new : Links) : Type 0 where
  pub slots : vec_capacity old.slots ≤ vec_capacity new.slots
  pub gates : vec_capacity old.gates ≤ vec_capacity new.gates
