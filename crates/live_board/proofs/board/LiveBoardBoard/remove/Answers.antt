use Rattle.std.proofs.Common.{refl}
use Rattle.quiesce_core.specs.declared.event.Event.TheVariants.{Remove}
use Rattle.txn_gate.specs.Seats.{change_in}
use Rattle.live_board.proofs.BehindLaws.{fits_removed}
use Rattle.live_board.proofs.BoardLaws.{adds_did, known_now, may_now, removed_below}
use Rattle.live_board.proofs.board.LiveBoardBoard.remove.Goals as goal

pub await_guest-guest-requires : goal.await_guest-guest-requires
await_guest-guest-requires g c =
    let m = c.requires.may in
    removed_below _ c.args.slot (known_now _ c.args.self.now c.self.view_is c.args.self.now m.0 m.1) (may_now _ c.args.self.now c.self.view_is c.args.self.now (Remove c.args.slot) m)

pub returns-clause-board : goal.returns-clause-board
returns-clause-board g c =
    adds_did _ c.args.self.now c.self.view_is _ refl refl refl refl (Remove c.args.slot) (change_in c.self.inside.seat) (change_in c.remove.new.seat) refl c.requires.may refl c.remove.ensures.change refl
    (fits_removed c.args.slot _ _ _)
