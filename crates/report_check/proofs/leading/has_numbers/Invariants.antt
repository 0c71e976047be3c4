use Rattle.std.proofs.Common.{◌≡◌, ℕ, ◌<◌, get_or}
use Rattle.component_trait.specs.Moves as moves
use Rattle.report_check.proofs.leading.has_numbers.Given as goal

abbrev pub invariant-loop-index : goal.invariant-loop-index
invariant-loop-index g l = (k : ℕ) → k < l.index → get_or (moves.numbers (g.C.Component.state l.node)) k 0 ≡ get_or l.numbers k 0
