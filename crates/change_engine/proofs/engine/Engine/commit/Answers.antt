use Rattle.std.proofs.Common.{◌≡◌, ◌∷◌, [], Some, sym, ◌∙◌}
use Rattle.change_board.specs.Transcripts.{entries}
use Rattle.report_types.specs.declared.report.HistoryLine.TheVariants as to
use Rattle.change_engine.proofs.ChangeLemmas.{commit_may, committed, lines_for}
use Rattle.change_engine.proofs.engine.Engine.commit.Goals as goal

pub do_and_tell-requires-clause-may : goal.do_and_tell-requires-clause-may
do_and_tell-requires-clause-may g c =
    let e = c.args.self.now in
    let w = c.requires.passive in
    let t = w.0 in
    let m = w.2 in
    let runs = g.met.B.Board.is_of_run in (
      entries t,
      m.is_open.tells.board,
      commit_may g.B.Board runs e t w.1 c.args.plan c.args.new c.in-Some.change m (sym c.take.ensures.value ∙ c.in-Some.is)
          (c.plans_may_be_carried_out.ensures.may e.graph c.args.new w.1 c.args.plan (entries t) (runs e.board (entries t) m.is_open.tells.board) m.may_),
    )

pub returns : goal.returns
returns g c =
    let w = c.requires.passive in
    let e = c.args.self.now in
    let open_ : e.change ≡ Some c.in-Some.change = sym c.take.ensures.value ∙ c.in-Some.is in
    committed g.B.Board g.met.B.Board.is_of_run c.args.self.now c.do_and_tell.new.board c.do_and_tell.new.history c.take.new.self c.in-Some.change c.args.plan c.args.new
    open_ c.take.ensures.after c.plans_may_be_carried_out.ensures.graph
    (c.do_and_tell.ensures [] (to.Commit ∷ [])
    (lines_for g.B.Board g.met.B.Board.is_of_run e w.0 w.1 c.args.plan c.args.new c.in-Some.change w.2.is_open open_))
