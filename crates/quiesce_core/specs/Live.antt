-- To be believed (definitions.md).
-- The graph of the nodes that are live and of their links.
use Rattle.std.specs.Prelude.{◌≡◌, ℕ, true, List, Some, slice_get}
use Rattle.config_graph.specs.Graph.{Graph}
use Rattle.config_graph.specs.GraphBy.{IsGraphBy}
use Rattle.config_graph.specs.declared.node.Node.{Node}
use Rattle.quiesce_core.specs.declared.state.Slot.{Slot}
use Rattle.quiesce_core.specs.State.{Configuration, slot, gate, owner, target}

-- the node in slot n is live, and it is this one
pub record IsLiveAt (c : Configuration) (n : ℕ) (node : Node) : Type 0 where
  pub made : Slot
  pub there : slot c n ≡ Some made
  pub live : made.live ≡ true
  pub is_node : made.node ≡ node

-- a node that is live
abbrev pub IsLiveNode : Configuration → Node → Type 0
IsLiveNode c node = (n : ℕ) × IsLiveAt c n node

-- a requirement of a live node is linked to a provision of a live node
pub record AreLinked (c : Configuration) (from : Node) (require : ℕ) (to : Node) (provide : ℕ) : Type 0 where
  pub port : ℕ
  pub slot_to : ℕ
  pub leads : target c port ≡ Some (record { node = slot_to; provide = provide })
  pub requirement : (gate c port).require ≡ require
  pub from_there : IsLiveAt c (owner c port) from
  pub to_there : IsLiveAt c slot_to to

-- the graph of a configuration: its nodes are those that are live, and its links those of their ports
abbrev pub IsGraphOf : Configuration → Graph → Type 0
IsGraphOf c g = IsGraphBy (IsLiveNode c) (AreLinked c) g

-- the node in slot n is live, and it is the one at this place of the list
pub record StandsAt (c : Configuration) (nodes : List Node) (n place : ℕ) : Type 0 where
  pub made : Slot
  pub there : slot c n ≡ Some made
  pub live : made.live ≡ true
  pub stands : slice_get nodes place ≡ Some made.node
