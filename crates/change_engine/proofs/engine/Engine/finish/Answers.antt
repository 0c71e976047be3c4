use Rattle.std.proofs.Common.{refl}
use Rattle.change_engine.specs.Calls.{HasFinished}
use Rattle.change_engine.specs.Finishing.{Finished}
use Rattle.change_engine.specs.declared.engine.Engine.{Engine}
use Rattle.change_engine.proofs.EngineLemmas.{has_finished}
use Rattle.change_engine.specs.Growing.{telling}
use Rattle.change_engine.proofs.engine.Engine.finish.Goals as goal
use Rattle.std.proofs.lemmas.Result.{IfOk-weaker}
use Rattle.base.proofs.AnswerLaws.{on_both_errs}

pub returns-clause-ok : goal.returns-clause-ok
returns-clause-ok g c =
    let W = g.B.Board in
    let e = c.args.self.now in
    let f : Engine g.row.B.Denot = record { board = c.finish.new.board; history = c.finish.new.history; graph = e.graph; layout = e.layout; change = e.change } in
    IfOk-weaker c.finish.result (λ rounds. Finished W (telling e.board e.history.items) (telling f.board f.history.items) c.args.n rounds) (λ rounds. HasFinished W e f c.args.n rounds) (λ rounds x. has_finished W e f c.args.n rounds refl refl refl x) c.finish.ensures.ok

pub returns-clause-untold : goal.returns-clause-untold
returns-clause-untold g c =
    on_both_errs (λ broke history. record { broke = broke; history_is = history; layout_is = refl; change_is = refl }) c.finish.result c.finish.ensures.err c.finish.ensures.untold
