-- What one move of a node does.
use Rattle.std.specs.Prelude.{◌≡◌, ◌++◌, List, Option, Some, option_to_list}
use Rattle.component_trait.specs.Fold.{fold_from}
use Rattle.component_trait.specs.States.{NodeState}
use Rattle.quiesce_core.specs.State.{State}
use Rattle.quiesce_core.specs.declared.event.Event.{Event}
use Rattle.node_gate.specs.Moves.{Does}
use Rattle.node_gate.specs.Seats.{NodeAt}
use Rattle.node_host.specs.Hosted.{SeatSeen}

-- The node did this event, or none: the log has it at its end, the fold of the node's state goes on with it, the seat
-- knows it, and it is a step of the gate's state, where the gate tells that.
pub record Moved (n : NodeAt) (e : Option Event) (t t' : NodeState) (log log' : List Event) (seat seat' : SeatSeen) (state state' : Option State) : Type 0 where
  pub logged : log' ≡ log ++ option_to_list e
  pub folds : fold_from n.first t (option_to_list e) ≡ Some t'
  pub does : Does n (option_to_list e) seat.known seat'.known seat.told seat'.told state state'
