use Rattle.std.proofs.Common.{◌∷◌, ◌++◌, [], sym, ap, ◌∙◌, subst, arith}
use Rattle.change_board.specs.Steps.{HasRoomForAll}
use Rattle.change_spec.specs.Members.{lines_of_events}
use Rattle.report_types.specs.declared.report.HistoryLine.TheVariants as to
use Rattle.change_engine.proofs.StartLemmas.{began, start_fits}
use Rattle.change_engine.proofs.launching.begin.Goals as goal

pub do_and_tell-requires-clause-room : goal.do_and_tell-requires-clause-room
do_and_tell-requires-clause-room g c =
    let room = g.B.Board.room c.reserve.new.self in
    subst (HasRoomForAll room) (sym c.in_ok-events.ensures) (start_fits c.args.graph.now room (omega (arith, c.in_ok-reserve.ensures.nodes, c.node_count.ensures.count)))

pub returns-clause-begins : goal.returns-clause-begins
returns-clause-begins g c =
    began g.B.Board c.args.board.now c.reserve.new.self c.do_and_tell.new.board c.in_ok-history.history.items c.do_and_tell.new.history.items c.args.name c.args.args.items c.in_ok-events.events.items c.args.graph.now
    c.in_ok-reserve.ensures.board c.in_ok-history.ensures.items c.in_ok-events.ensures
    (c.do_and_tell.ensures (to.Start c.args.name c.args.args.items ∷ []) (to.Commit ∷ [])
    (c.in_ok-lines.ensures ∙ ap (λ es. (to.Start c.args.name c.args.args.items ∷ []) ++ lines_of_events es ++ to.Commit ∷ []) c.deref.ensures.value))
