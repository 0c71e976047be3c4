use Rattle.std.proofs.Common.{◌≡◌, ◌∷◌, [], Some, sym, ◌∙◌}
use Rattle.change_board.specs.Transcripts.{entries}
use Rattle.report_types.specs.declared.report.HistoryLine.TheVariants as to
use Rattle.change_engine.proofs.ChangeLemmas.{abandon_fits, abandon_may, abandoned, reopen_lines_for}
use Rattle.change_engine.proofs.engine.Engine.abandon.Goals as goal

pub do_and_tell-requires-clause-may : goal.do_and_tell-requires-clause-may
do_and_tell-requires-clause-may g c =
    let e = c.args.self.now in
    let w = c.requires.pending in
    (entries w.0, w.3.is_open.tells.board, abandon_may g.B.Board g.met.B.Board.is_of_run e w.0 w.1 c.args.plan w.2 c.in-Some.change w.3.is_open (sym c.take.ensures.value ∙ c.in-Some.is))

pub do_and_tell-requires-clause-room : goal.do_and_tell-requires-clause-room
do_and_tell-requires-clause-room g c =
    let w = c.requires.pending in
    abandon_fits g.B.Board g.met.B.Board.is_of_run c.args.self.now w.0 w.1 c.args.plan w.2 c.in-Some.change (g.B.Board.room c.args.self.now.board) w.3.is_open (sym c.take.ensures.value ∙ c.in-Some.is)

pub returns : goal.returns
returns g c =
    let w = c.requires.pending in
    let e = c.args.self.now in
    let open_ : e.change ≡ Some c.in-Some.change = sym c.take.ensures.value ∙ c.in-Some.is in
    abandoned g.B.Board g.met.B.Board.is_of_run c.args.self.now c.do_and_tell.new.board c.do_and_tell.new.history c.take.new.self c.in-Some.change c.args.plan
    open_ c.take.ensures.after
    (c.do_and_tell.ensures [] (to.Abandon ∷ [])
    (reopen_lines_for g.B.Board g.met.B.Board.is_of_run e w.0 w.1 c.args.plan w.2 c.in-Some.change w.3.is_open open_))
