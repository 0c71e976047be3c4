use Rattle.std.proofs.Common.{Some, refl}
use Rattle.quiesce_core.specs.State.{gate}
use Rattle.quiesce_core.specs.declared.event.Event.TheVariants.{Link}
use Rattle.txn_gate.specs.Seats.{change_in}
use Rattle.live_board.proofs.BehindLaws.{fits_gated}
use Rattle.live_board.proofs.BoardLaws.{adds_did}
use Rattle.live_board.proofs.board.LiveBoardBoard.link.Goals as goal

pub returns-clause-board : goal.returns-clause-board
returns-clause-board g c =
    adds_did _ c.args.self.now c.self.view_is _ refl refl refl refl (Link c.args.port c.args.node c.args.provide) (change_in c.self.inside.seat) (change_in c.link.new.seat) refl c.requires.may refl c.link.ensures.change refl
    (fits_gated c.args.port (λ d. record (gate d c.args.port) { target = Some (record { node = c.args.node; provide = c.args.provide }) }) _ _ _)
