use Rattle.live_board.proofs.KeptLaws.{kept_set, none_is}
use Rattle.live_run.proofs.held.taken_out.Goals as goal

pub returns-clause-fits : goal.returns-clause-fits
returns-clause-fits g c =
    kept_set g.J.Named.gates c.args.guests.now.items c.args.slot c.take.new.self c.requires.fits (λ x is. none_is c.take.new.self x c.take.ensures.after is)
