use Rattle.std.proofs.Common.{◌≤◌, length}
use Rattle.std.specs.Prelude.{vec_capacity}
use Rattle.std.specs.List.{AllByRecursion}
use Rattle.live_board.specs.Collecting.{AreTold, LiesAt}
use Rattle.live_board.specs.Keeping.{AreKept}
use Rattle.state_handover.specs.contracts.any_node.AnyNodeComponent.TheImpl.{ghosts}
use Rattle.live_board.proofs.ends.take_ends.Given as goal

abbrev pub invariant-loop-slot : goal.invariant-loop-slot
invariant-loop-slot g l = record {
  kept : AreKept g.J.Named.gates l.kept.items;
  few : length l.guests.items ≤ l.slot;
  guests : AllByRecursion (LiesAt g.J.Named.gates) l.guests.items;
  room : l.slots ≤ vec_capacity l.guests;
  log_room : l.slots ≤ vec_capacity l.logs;
  done_room : l.slots ≤ vec_capacity l.dones;
  told : AreTold ghosts.state l.heirs.items l.slot l.guests.items l.logs.items l.dones.items;
}
