use Rattle.step_board.proofs.LogLemmas.{AreBelow}
use Rattle.step_board.proofs.collecting.collect_logs.Given as goal

abbrev pub invariant-loop-slot : goal.invariant-loop-slot
invariant-loop-slot g l =
    AreBelow g.N.Nodes.shows l.nodes (g.N.Nodes.machine l.nodes) (g.N.Nodes.logs l.nodes) l.slot l.logs.items
