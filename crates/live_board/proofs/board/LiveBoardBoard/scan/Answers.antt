use Rattle.std.proofs.Common.{refl}
use Rattle.state_handover.specs.contracts.any_node.AnyNodeComponent.TheImpl.{ghosts}
use Rattle.live_board.specs.Turning.{ways}
use Rattle.live_board.proofs.BoardLemmas.{adds_scan}
use Rattle.live_board.proofs.board.LiveBoardBoard.scan.Goals as goal

pub returns-clause-ok : goal.returns-clause-ok
returns-clause-ok g c =
    adds_scan _ c.args.self.now c.self.view_is _ refl refl refl ghosts.state g.J.Named.gates (ways c.self.inside.door c.self.inside.hand) (ways c.scan.new.door c.scan.new.hand) c.args.begins c.in_ok-scanned.scanned.scan c.in_ok-scanned.ensures.ok
