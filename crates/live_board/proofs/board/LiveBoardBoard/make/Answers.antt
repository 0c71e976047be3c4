use Rattle.std.proofs.Common.{◌∙◌, ap, refl, subst, sym}
use Rattle.live_board.specs.Heirs.{with_heir}
use Rattle.live_board.specs.Keeping.{HaveRoom}
use Rattle.txn_spec.specs.declared.view.ChangeView.{ChangeView}
use Rattle.live_board.proofs.BoardLaws.{adds_made, fits_now, sources_now}
use Rattle.live_board.proofs.board.LiveBoardBoard.make.Goals as goal

pub make_guest-guest-requires-clause-room : goal.make_guest-guest-requires-clause-room
make_guest-guest-requires-clause-room g c =
    let m = c.requires.may in
    let f = fits_now _ c.args.self.now c.self.view_is c.args.self.now m.0 m.1 in
    (c.self.inside.sources, c.self.inside.lines, c.self.invariant.3, f.shallow, sources_now _ c.args.self.now c.self.view_is c.args.self.now c.args.from c.requires.room, f.made)

pub invariant_of-self : goal.invariant_of-self
invariant_of-self g c =
    let made = c.make_guest-guest.ensures.made in (
      c.learn.ensures.same.here ∙ made.here ∙ c.self.invariant.0,
      c.self.invariant.1,
      c.make_guest-guest.ensures.kept,
      subst (λ n. HaveRoom c.make_guest-guest.new.blanks.items n c.self.inside.lines) (sym c.learn.ensures.same.spare) (c.make_guest-guest.ensures.room c.self.inside.lines c.self.invariant.3),
    )

pub returns-clause-board : goal.returns-clause-board
returns-clause-board g c =
    let made = c.make_guest-guest.ensures.made in
    adds_made _ c.args.self.now c.self.view_is _ refl refl refl c.args.node c.args.from made.entries.sights
    (sources_now _ c.args.self.now c.self.view_is c.args.self.now c.args.from c.requires.room)
    (c.note_heir.ensures ∙ ap (with_heir c.self.inside.heirs.items c.args.from) c.made-made.ensures.nodes)
    (ap (λ (k : ChangeView). k.entries) c.learn.ensures.same.change ∙ made.entries.adds)
    c.learn.ensures.run
