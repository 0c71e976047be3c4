use Rattle.live_hall.proofs.Cells.{learns, puts_as}
use Rattle.live_hall.proofs.cell.put.Goals as goal

pub push_as-requires-clause-rule : goal.push_as-requires-clause-rule
push_as-requires-clause-rule g c = (puts_as g.J.Named.gates _ _ _ c.args.node c.requires.fits.0 c.requires.fits.1, learns g.J.Named.gates _ _)
