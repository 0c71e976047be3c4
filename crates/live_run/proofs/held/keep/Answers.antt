use Rattle.std.proofs.Common.{Some}
use Rattle.live_board.proofs.KeptLaws.{fits_same, kept_set}
use Rattle.live_run.proofs.held.keep.Goals as goal

pub returns-clause-fits : goal.returns-clause-fits
returns-clause-fits g c =
    kept_set g.J.Named.gates c.args.guests.now.items c.args.slot (Some c.args.guest) c.requires.fits (λ x is. fits_same g.J.Named.gates c.args.slot c.args.guest x c.requires.guest is)
