use Rattle.std.proofs.Common.{false, ap}
use Rattle.std.specs.Prelude.{is_some}
use Rattle.live_board.proofs.KeptLaws.{kept_set, none_is, stored_set}
use Rattle.live_board.proofs.keeping.taken_out.Goals as goal

pub returns-then-at-len-clause-kept : goal.returns-then-at-len-clause-kept
returns-then-at-len-clause-kept g c =
    kept_set g.J.Named.gates c.args.kept.now.items c.args.slot c.take.new.self c.requires (λ x is. none_is c.take.new.self x c.take.ensures.after is)

pub returns-then-at-len-clause-stored : goal.returns-then-at-len-clause-stored
returns-then-at-len-clause-stored g c = stored_set c.args.kept.now.items c.args.slot c.take.new.self false (ap is_some c.take.ensures.after)
