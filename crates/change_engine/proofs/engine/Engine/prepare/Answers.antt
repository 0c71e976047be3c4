use Rattle.std.proofs.Common.{◌≤◌, ◌++◌, ◌∷◌, [], length, Some, refl, sym, ap, ◌∙◌, subst, arith}
use Rattle.std.proofs.lemmas.List.{append-nil}
use Rattle.txn_records.specs.Entries.{config_of}
use Rattle.change_board.specs.Transcripts.{entries}
use Rattle.report_types.specs.declared.report.HistoryLine.TheVariants as to
use Rattle.change_engine.specs.declared.engine.Engine.{Engine}
use Rattle.change_engine.proofs.EngineLemmas.{record_sound}
use Rattle.change_engine.proofs.PrepareLemmas.{has_prepared, idle_still}
use Rattle.base.proofs.AnswerLaws.{if_err}
use Rattle.change_engine.proofs.engine.Engine.prepare.Goals as goal

pub list_change-requires : goal.list_change-requires
list_change-requires g c =
    let w = c.requires.planned in
    let x = w.2.tells in
    let e = c.args.self.now in
    record {
      planned = (
        config_of (entries w.0),
        w.1,
        x.is_graph,
        record { laid = x.layout; graph = x.graph; sound = record_sound (entries w.0) (g.met.B.Board.is_of_run e.board (entries w.0) x.board) },
        w.3,
      );
    }

pub returns-in_err-reserve-clause-err : goal.returns-in_err-reserve-clause-err
returns-in_err-reserve-clause-err g c =
    let W = g.B.Board in
    let e = c.args.self.now in
    let f : Engine g.row.B.Denot = record { board = e.board; history = c.reserve.new.self; graph = e.graph; layout = e.layout; change = e.change } in
    if_err (idle_still W e f (λ r s. subst (W.stands_for e.board) (sym (append-nil r)) s) c.reserve.ensures.items refl refl refl) c.from_residual-in_err-reserve.result

pub overflow_cast-items : goal.overflow_cast-items
overflow_cast-items g c =
    let w = c.requires.planned in
    omega (arith, ap length c.items.ensures, c.commits_have_room.ensures.few c.args.self.now.graph c.args.new.now w.1 c.args.plan.now (config_of (entries w.0)) w.3)

pub reserve-requires-2 : goal.reserve-requires-2
reserve-requires-2 g c =
    let w = c.requires.planned in
    record {
      few = (
        entries w.0,
        w.2.tells.board,
        omega (arith, ap length c.items.ensures, c.commits_have_room.ensures.few c.args.self.now.graph c.args.new.now w.1 c.args.plan.now (config_of (entries w.0)) w.3),
      );
    }

pub returns-in_err-reserve-2-clause-err : goal.returns-in_err-reserve-2-clause-err
returns-in_err-reserve-2-clause-err g c =
    let W = g.B.Board in
    let e = c.args.self.now in
    let f : Engine g.row.B.Denot = record { board = c.reserve-2.new.self; history = c.reserve.new.self; graph = e.graph; layout = e.layout; change = e.change } in
    if_err (idle_still W e f c.reserve-2.ensures.board c.reserve.ensures.items refl refl refl) c.from_residual-in_err-reserve-2.result

pub put-requires : goal.put-requires
put-requires g c =
    let h = c.reserve.new.self in
    let room = c.in_ok-reserve.ensures.ok in
    let small = h.small in
    record { place = omega (arith, room, small, c.line_count.ensures (omega (arith, room, small))) }

pub returns-clause-ok : goal.returns-clause-ok
returns-clause-ok g c =
    let W = g.B.Board in
    let e = c.args.self.now in
    let v = c.put.new.list in
    let f : Engine g.row.B.Denot = record { board = c.reserve-2.new.self; history = v; graph = e.graph; layout = e.layout; change = Some c.in_ok-change.change } in
    let room = c.in_ok-reserve.ensures.ok in
    let small = c.reserve.new.self.small in
    let lines = c.line_count.ensures (omega (arith, room, small)) in
    has_prepared W g.met.B.Board.is_of_run e f c.args.name c.args.args.items c.args.plan.now c.args.new.now c.in_ok-change.change
    c.reserve-2.ensures.board
    (c.put.ensures.items ∙ ap (λ ls. ls ++ to.Change c.args.name c.of.result ∷ []) c.reserve.ensures.items ∙ ap (λ xs. e.history.items ++ to.Change c.args.name xs ∷ []) c.of.ensures)
    refl refl refl c.in_ok-change.ensures.for_plan
    (λ t h. c.commits_have_room.ensures.room e.graph c.args.new.now c.args.plan.now (config_of (entries t)) (W.room c.reserve-2.new.self)
    (subst (λ js. length js ≤ (W.room c.reserve-2.new.self).nodes) c.items.ensures c.in_ok-reserve-2.ensures.nodes)
    (c.in_ok-reserve-2.ensures.sources (entries t) h.tells.board))
    (record {
      commit_lines = omega (arith, room, lines, c.put.ensures.len, c.put.ensures.capacity);
      abandon_lines = omega (arith, room, lines, c.put.ensures.len, c.put.ensures.capacity);
      waiting = c.in_ok-change.ensures.waiting;
    })
