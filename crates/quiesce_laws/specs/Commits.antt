-- To be believed (definitions.md).
-- What a commit needs: lists of what it unlinks, removes, makes and links lead from a configuration to a graph, and
-- the ports of the nodes that it touches, and those that reach them, are known to be drained (Kramer and Magee 1990).
use Rattle.std.specs.Prelude.{◌≡◌, ◌⊎◌, ℕ, ◌+◌, ◌<◌, ◌≤◌, Bool, true, List, length, Some, None, Contains}
use Rattle.std.specs.List.{AllPairs}
use Rattle.config_graph.specs.Cycles.{IsLinked}
use Rattle.config_graph.specs.Graph.{Graph}
use Rattle.config_graph.specs.GraphBy.{AreLinkedAt}
use Rattle.config_graph.specs.Sound.{Sound}
use Rattle.config_graph.specs.Wiring.{Reach}
use Rattle.config_graph.specs.declared.TheConstants.{MAX_NODES, MAX_PORTS}
use Rattle.config_graph.specs.declared.node.Node.{Node}
use Rattle.config_graph.specs.declared.node.Target.{Target}
use Rattle.quiesce_core.specs.declared.state.Slot.{Slot}
use Rattle.quiesce_core.specs.Live.{AreLinked, IsLiveAt}
use Rattle.quiesce_core.specs.Reach.{wiring_of}
use Rattle.quiesce_core.specs.Rules.{has_its_argument, is_kind}
use Rattle.quiesce_core.specs.State.{Configuration, owner, slot, target}
use Rattle.quiesce_core.specs.WellFormed.{LeadsToProvision}
use Rattle.quiesce_laws.specs.Fitting.{Fits, KeptLink, Stands}
use Rattle.quiesce_laws.specs.Steps.{change_all}
use Rattle.quiesce_laws.specs.Work.{AreNumbered, NewLink, NewNode, Work, end_of, ports_wanted, work_of}

-- a node that is touched, or was made since c
abbrev pub Changed : Configuration → (ℕ → Type 0) → ℕ → Type 0
Changed c Touched n = Touched n ⊎ (length c.slots ≤ n)

-- a port of a touched node that is linked, and whose link isn't one of the new graph
pub record IsToUnlink (c : Configuration) (new : Graph) (Touched : ℕ → Type 0) (p : ℕ) : Type 0 where
  pub to : Target
  pub leads : target c p ≡ Some to
  pub touched : Touched (owner c p)
  pub unkept : (t : Target) → KeptLink c new p t → ⊥

-- a live node that is touched, and isn't in the new graph
pub record IsToRemove (c : Configuration) (new : Graph) (Touched : ℕ → Type 0) (n : ℕ) : Type 0 where
  pub node : Node
  pub live : IsLiveAt c n node
  pub touched : Touched n
  pub gone : Contains new.nodes node → ⊥

-- how members of a list are apart: not one number, one path, one source, one port
abbrev pub Differ : ℕ → ℕ → Type 0
Differ p q = q ≡ p → ⊥

abbrev pub OtherPath : NewNode → NewNode → Type 0
OtherPath m k = k.node.path ≡ m.node.path → ⊥

abbrev pub OtherSource : NewNode → NewNode → Type 0
OtherSource m l = (k : ℕ) → m.from ≡ Some k → l.from ≡ Some k → ⊥

abbrev pub OtherPort : NewLink → NewLink → Type 0
OtherPort l k = k.port ≡ l.port → ⊥

-- a link of the new graph from an unlinked port of a node that is touched or new, to a provision that is there
pub record IsToLink
    (c : Configuration) (new : Graph) (Touched : ℕ → Type 0) (d : Configuration) (l : NewLink) : Type 0 where
  pub made : l.port < length d.gates
  pub changed : Changed c Touched (owner d l.port)
  pub unlinked : target d l.port ≡ None
  pub fits : Fits d new l.port (end_of l)
  pub leads : LeadsToProvision d (end_of l)

-- the state in slot k goes over to a node to be made: k has a node of its kind, which is removed
pub record IsSource (c : Configuration) (removes : List ℕ) (m : NewNode) (k : ℕ) : Type 0 where
  pub removed : Contains removes k
  pub made : Slot
  pub there : slot c k ≡ Some made
  pub kind : is_kind made.node.kind m.node.kind ≡ true

-- this work leads from c to the nodes of the new graph and to no link that it hasn't: it unlinks and removes exactly
-- what the graph hasn't, and makes exactly the nodes that c hasn't, in the slots that come next, where there is room
pub record IsWork (c : Configuration) (new : Graph) (Touched : ℕ → Type 0) (w : Work) : Type 0 where
  pub unlinks : (p : ℕ) → Contains w.unlinks p → IsToUnlink c new Touched p
  pub all_unlinks : (p : ℕ) (t : Target) → target c p ≡ Some t → Contains w.unlinks p ⊎ KeptLink c new p t
  pub unlinks_apart : AllPairs Differ w.unlinks
  pub removes : (n : ℕ) → Contains w.removes n → IsToRemove c new Touched n
  pub all_removes : (n : ℕ) (node : Node) → IsLiveAt c n node → Contains w.removes n ⊎ Contains new.nodes node
  pub removes_apart : AllPairs Differ w.removes
  pub makes : (m : NewNode) → Contains w.makes m → Contains new.nodes m.node
      × ((n : ℕ) (node : Node) → IsLiveAt c n node → Contains new.nodes node → m.node.path ≡ node.path → ⊥)
  pub all_makes : (node : Node) → Contains new.nodes node
      → ((n : ℕ) × IsLiveAt c n node) ⊎ ((m : NewNode) × Contains w.makes m × (m.node ≡ node))
  pub makes_apart : AllPairs OtherPath w.makes
  pub arguments : (m : NewNode) → Contains w.makes m → has_its_argument m.node ≡ true
  pub numbered : AreNumbered (length c.slots) w.makes
  pub sources : (m : NewNode) → Contains w.makes m → (k : ℕ) → m.from ≡ Some k → IsSource c w.removes m k
  pub other_sources : AllPairs OtherSource w.makes
  pub room_nodes : length c.slots + length w.makes ≤ MAX_NODES
  pub room_ports : length c.gates + ports_wanted w.makes ≤ MAX_PORTS

-- these links lead from d to the new graph: they are exactly those that d hasn't
pub record AreLinks
    (c : Configuration) (new : Graph) (Touched : ℕ → Type 0) (d : Configuration) (links : List NewLink) : Type 0 where
  pub to_link : (l : NewLink) → Contains links l → IsToLink c new Touched d l
  pub all_links : (i r j x : ℕ) → IsLinked new i r j x
      → AreLinkedAt (AreLinked d) new.nodes i r j x
      ⊎ ((l : NewLink) × Contains links l × Stands d new l.port (end_of l) i r j x)
  pub links_apart : AllPairs OtherPort links

-- the ports that are known to be drained: all those of touched nodes, those that reach one, and those not made yet
pub record AreNoted (c : Configuration) (Touched : ℕ → Type 0) (noted : ℕ → Bool) : Type 0 where
  pub fresh : (q : ℕ) → length c.gates ≤ q → noted q ≡ true
  pub own : (q : ℕ) → q < length c.gates → Touched (owner c q) → noted q ≡ true
  pub reaching : (n q : ℕ) → Touched n → Reach (wiring_of c) n q → noted q ≡ true

-- This work and then these links lead from c to a sound graph, and change no node but those that are touched and those
-- that are made.
pub record IsCommit
    (c : Configuration) (new : Graph) (Touched : ℕ → Type 0) (noted : ℕ → Bool) (w : Work) (links : List NewLink)
    : Type 0 where
  pub sound : Sound new
  pub are_noted : AreNoted c Touched noted
  pub is_work : IsWork c new Touched w
  pub are_links : AreLinks c new Touched (change_all c (work_of w)) links
