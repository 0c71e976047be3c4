use Rattle.std.proofs.Common.{◌≡◌}
use Rattle.step_board.specs.Going.{Gave, ShowsSome, turns_below}
use Rattle.node_turn_laws.specs.World.{World}
use Rattle.step_board.proofs.scanning.give_turns.Given as goal

abbrev pub invariant-loop-slot : goal.invariant-loop-slot
invariant-loop-slot g l = record {
  room : g.N.Nodes.room l.nodes ≡ g.N.Nodes.room l.fn.nodes;
  some : ShowsSome g.N.Nodes.shows l.nodes;
  gave : (w : World) → g.N.Nodes.shows l.fn.nodes w → Gave g.N.Nodes.shows l.nodes l.moved (turns_below l.begins w l.slot);
}
