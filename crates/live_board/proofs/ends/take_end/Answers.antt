use Rattle.live_board.proofs.TellLemmas.{told_if}
use Rattle.state_handover.specs.contracts.any_node.AnyNodeComponent.TheImpl.{ghosts}
use Rattle.live_board.proofs.ends.take_end.Goals as goal

pub returns-in-None-clause-told : goal.returns-in-None-clause-told
returns-in-None-clause-told g c =
    told_if ghosts.state c.end_of-end.result c.args.heir c.args.slot c.args.guests.now.items c.push_reserved.new.self.items c.take_back-guest.result c.in-None.is c.push_reserved.ensures.items c.take_back-guest.ensures.fits.0
    c.end_of-end.ensures.last c.end_of-end.ensures.done
