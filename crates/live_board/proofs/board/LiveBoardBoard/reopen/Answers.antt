use Rattle.std.proofs.Common.{false, refl}
use Rattle.quiesce_core.specs.State.{gate}
use Rattle.quiesce_core.specs.declared.event.Event.TheVariants.{Reopen}
use Rattle.txn_gate.specs.Seats.{change_in}
use Rattle.live_board.proofs.BehindLaws.{fits_gated}
use Rattle.live_board.proofs.BoardLaws.{adds_did}
use Rattle.live_board.proofs.board.LiveBoardBoard.reopen.Goals as goal

pub returns-clause-board : goal.returns-clause-board
returns-clause-board g c =
    adds_did _ c.args.self.now c.self.view_is _ refl refl refl refl (Reopen c.args.port) (change_in c.self.inside.seat) (change_in c.reopen.new.seat) refl c.requires.may refl c.reopen.ensures.change refl
    (fits_gated c.args.port (λ d. record (gate d c.args.port) { closed = false }) _ _ _)
