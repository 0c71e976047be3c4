use Rattle.std.proofs.Common.{◌++◌, ◌∷◌, [], refl, ap, ◌∙◌}
use Rattle.report_types.specs.declared.report.HistoryLine.TheVariants as to
use Rattle.change_engine.specs.declared.engine.Engine.{Engine}
use Rattle.change_engine.proofs.EngineLemmas.{continues, said_alone}
use Rattle.change_engine.proofs.engine.Engine.show.Goals as goal

pub returns-clause-ok : goal.returns-clause-ok
returns-clause-ok g c =
    let e = c.args.self.now in
    let f : Engine g.row.B.Denot = record { board = e.board; history = c.push.new.self; graph = e.graph; layout = e.layout; change = e.change } in
    continues g.B.Board e f _
    (said_alone g.B.Board e.board e.history.items c.push.new.self.items (to.Show e.graph ∷ [])
    (c.in_ok-push.ensures.items ∙ ap (λ h. e.history.items ++ to.Show h ∷ []) c.in_ok-graph.ensures))
    refl refl refl refl
