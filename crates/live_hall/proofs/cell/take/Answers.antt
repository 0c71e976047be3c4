use Rattle.live_hall.proofs.Cells.{learns, takes_as}
use Rattle.live_hall.proofs.cell.take.Goals as goal

pub pop_as-requires-clause-rule : goal.pop_as-requires-clause-rule
pop_as-requires-clause-rule g c = (takes_as g.J.Named.gates _ _ c.requires.named, learns g.J.Named.gates _ _)
