use Rattle.std.proofs.Common.{◌++◌, ◌∷◌, [], refl, ap, sym, subst, ◌∙◌, append_assoc, arith}
use Rattle.std.proofs.lemmas.List.{append-nil}
use Rattle.report_types.specs.declared.report.HistoryLine.TheVariants as to
use Rattle.change_engine.specs.declared.engine.Engine.{Engine}
use Rattle.change_engine.proofs.EngineLemmas.{continues, said_alone}
use Rattle.change_engine.proofs.PrepareLemmas.{idle_still}
use Rattle.base.proofs.AnswerLaws.{if_err}
use Rattle.change_engine.proofs.engine.Engine.skip.Goals as goal

pub returns-in_err-reserve-clause-err : goal.returns-in_err-reserve-clause-err
returns-in_err-reserve-clause-err g c =
    let W = g.B.Board in
    let e = c.args.self.now in
    let f : Engine g.row.B.Denot = record { board = e.board; history = c.reserve.new.self; graph = e.graph; layout = e.layout; change = e.change } in
    if_err (idle_still W e f (λ r s. subst (W.stands_for e.board) (sym (append-nil r)) s) c.reserve.ensures.items refl refl refl) c.from_residual.result

pub put-requires : goal.put-requires
put-requires g c = record { place = omega (arith, c.in_ok-reserve.ensures.ok) }

pub put-requires-2 : goal.put-requires-2
put-requires-2 g c = record { place = omega (arith, c.in_ok-reserve.ensures.ok, c.put.ensures.len, c.put.ensures.capacity) }

pub returns-clause-ok : goal.returns-clause-ok
returns-clause-ok g c =
    let e = c.args.self.now in
    let f : Engine g.row.B.Denot = record { board = e.board; history = c.put-2.new.list; graph = e.graph; layout = e.layout; change = e.change } in
    let change = to.Change c.args.name c.args.args.items in
    continues g.B.Board e f _
    (said_alone g.B.Board e.board e.history.items c.put-2.new.list.items (change ∷ to.Skipped ∷ [])
    (c.put-2.ensures.items ∙ ap (λ ls. ls ++ to.Skipped ∷ []) (c.put.ensures.items ∙ ap (λ ls. ls ++ to.Change c.args.name c.of.result ∷ []) c.reserve.ensures.items
    ∙ ap (λ xs. e.history.items ++ to.Change c.args.name xs ∷ []) c.of.ensures) ∙ append_assoc e.history.items (change ∷ []) (to.Skipped ∷ [])))
    refl refl refl refl
