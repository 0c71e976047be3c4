use Rattle.std.proofs.Common.{◌≡◌, take}
use Rattle.component_trait.specs.Moves as moves
use Rattle.step_board.proofs.tables.numbers_of.Given as goal

abbrev pub invariant-loop-index : goal.invariant-loop-index
invariant-loop-index g l = l.numbers.items ≡ take l.index (moves.numbers (g.C.Component.state l.node))
