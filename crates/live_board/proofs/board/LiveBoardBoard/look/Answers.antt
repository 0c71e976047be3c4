use Rattle.std.proofs.Common.{[], ◌∷◌, ap, refl}
use Rattle.txn_spec.specs.declared.view.ChangeView.{ChangeView}
use Rattle.txn_records.specs.declared.entry.Entry.TheVariants.{Looked}
use Rattle.live_board.proofs.BoardLaws.{adds_seen}
use Rattle.live_board.proofs.board.LiveBoardBoard.look.Goals as goal

pub returns-clause-board : goal.returns-clause-board
returns-clause-board g c =
    let word = c.look.ensures.did.0 in
    record {
      word = word;
      found = c.look.ensures.did.2;
      adds = adds_seen _ c.args.self.now c.self.view_is _ refl refl refl (Looked c.args.port word ∷ []) refl c.look.ensures.run (ap (λ (k : ChangeView). k.entries) c.look.ensures.did.1.change) (λ r h. tt);
    }
