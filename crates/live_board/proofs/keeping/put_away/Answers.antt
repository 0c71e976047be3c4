use Rattle.std.proofs.Common.{Some, true, refl}
use Rattle.live_board.proofs.KeptLaws.{fits_same, kept_set, stored_set}
use Rattle.live_board.proofs.keeping.put_away.Goals as goal

pub returns-then-at-len-clause-kept : goal.returns-then-at-len-clause-kept
returns-then-at-len-clause-kept g c =
    kept_set g.J.Named.gates c.args.kept.now.items c.args.slot (Some c.args.guest) c.requires.kept (λ x is. fits_same g.J.Named.gates c.args.slot c.args.guest x c.requires.fits is)

pub returns-then-at-len-clause-stored : goal.returns-then-at-len-clause-stored
returns-then-at-len-clause-stored g c = stored_set c.args.kept.now.items c.args.slot (Some c.args.guest) true refl
