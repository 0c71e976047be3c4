use Rattle.std.proofs.Common.{◌≡◌, ◌<◌, ℕ, true, map, Some}
use Rattle.std.specs.Prelude.{slice_get}
use Rattle.component_trait.specs.States.{NodeState}
use Rattle.state_handover.specs.declared.any_node.AnyNode.{AnyNode}
use Rattle.step_board.specs.Rooms.{has_past_room}
use Rattle.step_board.specs.Seen.{seen}
use Rattle.step_board.specs.declared.held.Held.{Held}
use Rattle.step_board.proofs.reserving.reserve_pasts.Given as goal

abbrev pub invariant-loop-slot : goal.invariant-loop-slot
invariant-loop-slot l = record {
  seen : (states : AnyNode → NodeState) → map (seen states) l.nodes ≡ map (seen states) l.fn.nodes;
  room : (k : ℕ) (h : Held) → k < l.slot → slice_get l.nodes k ≡ Some h → has_past_room h ≡ true;
  kept : (k : ℕ) (h h' : Held) → slice_get l.fn.nodes k ≡ Some h → has_past_room h ≡ true → slice_get l.nodes k ≡ Some h' → has_past_room h' ≡ true;
}
