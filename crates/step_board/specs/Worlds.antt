-- How what a table keeps is as in a world of nodes that take turns.
use Rattle.std.specs.Prelude.{◌≡◌, ℕ, ◌<◌, List, length, take, slice_get, Option, Some}
use Rattle.config_graph.specs.Kinds.{row}
use Rattle.quiesce_core.specs.State.{State}
use Rattle.node_turn_laws.specs.Reached.{IsReached}
use Rattle.node_turn_laws.specs.World.{World, inbox, state_of, waiting_of}
use Rattle.step_board.specs.Entries.{SlotEntry, NodeSeen, here}
use Rattle.step_board.specs.Holding.{HoldsIn}

-- The node has come to the state that the world says, and the hints of it wait that wait there, for nodes that were
-- made.
pub record IsShown (w : World) (n : ℕ) (x : NodeSeen) : Type 0 where
  pub state : state_of w n ≡ Some x.state
  pub two : length x.waiting ≡ 2
  pub waits : waiting_of w n ≡ take (length (row x.state.kind).requires_) x.waiting
  pub own : (r m : ℕ) → slice_get x.waiting r ≡ Some (Some m) → (r < length (row x.state.kind).requires_) × (m < length w.inboxes)

-- The world is reached by allowed events of the change and turns of nodes; its events are the run that the entries
-- hold after, and its inboxes hold what those of the table hold.
pub record ShowsIn (s : State) (nodes : List SlotEntry) (ends : List ℕ) (tells : ℕ → Option (List ℕ)) (w : World) : Type 0 where
  pub reached : IsReached w
  pub holds : HoldsIn s nodes ends w.events
  pub machine : w.machine ≡ s
  pub inboxes : (n : ℕ) → tells n ≡ Some (inbox w n)
  pub folds_made : length w.folds ≡ length nodes
  pub inboxes_made : length w.inboxes ≡ length nodes
  pub waiting_made : length w.waiting ≡ length nodes
  pub nodes_shown : (n : ℕ) (x : NodeSeen) → slice_get nodes n ≡ Some (here x) → IsShown w n x
