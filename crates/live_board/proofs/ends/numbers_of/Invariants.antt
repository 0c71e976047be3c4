use Rattle.std.proofs.Common.{◌≡◌}
use Rattle.std.specs.Prelude.{take}
use Rattle.component_trait.specs.Moves as moves
use Rattle.live_board.proofs.ends.numbers_of.Given as goal

abbrev pub invariant-loop-index : goal.invariant-loop-index
invariant-loop-index g l = l.numbers.items ≡ take l.index (moves.numbers (g.C.Component.state l.node))
