use Rattle.std.proofs.Common.{None, refl}
use Rattle.quiesce_core.specs.State.{gate}
use Rattle.quiesce_core.specs.declared.event.Event.TheVariants.{Unlink}
use Rattle.txn_gate.specs.Seats.{change_in}
use Rattle.live_board.proofs.BehindLaws.{fits_gated}
use Rattle.live_board.proofs.BoardLaws.{adds_did}
use Rattle.live_board.proofs.board.LiveBoardBoard.unlink.Goals as goal

pub returns-clause-board : goal.returns-clause-board
returns-clause-board g c =
    adds_did _ c.args.self.now c.self.view_is _ refl refl refl refl (Unlink c.args.port) (change_in c.self.inside.seat) (change_in c.unlink.new.seat) refl c.requires.may refl c.unlink.ensures.change refl
    (fits_gated c.args.port (λ d. record (gate d c.args.port) { target = None }) _ _ _)
