use Rattle.step_board.specs.Heirs.{AreHeirs}
use Rattle.step_board.proofs.collecting.find_heirs.Given as goal

abbrev pub invariant-loop-slot : goal.invariant-loop-slot
invariant-loop-slot g l = AreHeirs (g.N.Nodes.machine l.nodes).config l.slot l.heirs.items
