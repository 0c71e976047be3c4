use Rattle.std.proofs.Common.{arith}
use Rattle.change_board.specs.Transcripts.{entries}
use Rattle.change_engine.proofs.EngineLemmas.{all_are_live, few_ports, has_stopped}
use Rattle.change_engine.proofs.engine.Engine.stop.Goals as goal

pub take_logs-requires-clause-few : goal.take_logs-requires-clause-few
take_logs-requires-clause-few g c =
    let i = c.requires.idle in
    let e = c.args.self in
    omega (arith, few_ports e.layout e.graph (entries i.0) (g.met.B.Board.is_of_run e.board (entries i.0) i.1.tells.board) i.1.tells.layout)

pub take_logs-requires-clause-all : goal.take_logs-requires-clause-all
take_logs-requires-clause-all g c =
    let i = c.requires.idle in
    (entries i.0, i.1.tells.board, all_are_live g.B.Board c.args.self i.0 i.1)

pub returns : goal.returns
returns g c =
    has_stopped g.B.Board c.args.self c.take_logs.new.board c.take_logs.new.history.items c.in_ok-given.given c.report_of.result
    c.in_ok-given.ensures.ok c.report_of.ensures.history c.report_of.ensures.logs c.report_of.ensures.unfinished c.report_of.ensures.status
