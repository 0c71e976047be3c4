-- Which nodes are live after an event, and which of them are linked, told by the nodes and links before it.
use Rattle.std.specs.Prelude.{◌≡◌, ℕ, ◌⊎◌}
use Rattle.config_graph.specs.declared.node.Node.{Node}
use Rattle.quiesce_core.specs.declared.event.Event.{Event}
use Rattle.quiesce_core.specs.declared.event.Event.TheVariants.{Make, Link, Unlink, Remove}
use Rattle.quiesce_core.specs.State.{Configuration, gate, owner}
use Rattle.quiesce_core.specs.Live.{AreLinked, IsLiveAt, IsLiveNode}

-- the node is live then
abbrev pub IsNodeNext : Configuration → Event → Node → Type 0
IsNodeNext c (Make n made from) node = IsLiveNode c node ⊎ (made ≡ node)
IsNodeNext c (Remove n) node = (m : ℕ) × IsLiveAt c m node × (m ≡ n → ⊥)
IsNodeNext c _ node = IsLiveNode c node

-- port p is this requirement of a live node, and n with provision x is that live node with this provision
pub record AreEnds (c : Configuration) (p n x : ℕ) (from : Node) (require : ℕ) (to : Node) (provide : ℕ) : Type 0 where
  pub from_there : IsLiveAt c (owner c p) from
  pub requirement : (gate c p).require ≡ require
  pub to_there : IsLiveAt c n to
  pub provision : x ≡ provide

-- the requirement of the one node is linked to the provision of the other then
abbrev pub AreLinkedNext : Configuration → Event → Node → ℕ → Node → ℕ → Type 0
AreLinkedNext c (Link p n x) from require to provide = AreLinked c from require to provide ⊎ AreEnds c p n x from require to provide
AreLinkedNext c (Unlink p) from require to provide = (l : AreLinked c from require to provide) × (l.port ≡ p → ⊥)
AreLinkedNext c _ from require to provide = AreLinked c from require to provide
