use Rattle.std.proofs.Common.{ap, refl}
use Rattle.txn_spec.specs.declared.view.ChangeView.{ChangeView}
use Rattle.live_board.proofs.BoardLemmas.{adds_where_ok}
use Rattle.live_board.proofs.board.LiveBoardBoard.collect.Goals as goal

pub returns-clause-ok : goal.returns-clause-ok
returns-clause-ok g c =
    adds_where_ok _ c.args.self.now c.self.view_is _ refl refl refl (ap (λ (k : ChangeView). k.entries) c.collect.ensures.change) refl c.collect.result c.collect.ensures.ok
