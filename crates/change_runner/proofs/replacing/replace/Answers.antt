use Rattle.std.proofs.Common.{◌++◌, ◌∷◌, [], List, subst}
use Rattle.report_types.specs.declared.report.HistoryLine.TheVariants as to
use Rattle.change_board.specs.Transcripts.{Item, said}
use Rattle.change_engine.specs.Calls.{HasPrepared}
use Rattle.change_engine.specs.Engines.{IsIdle, IsPlanned}
use Rattle.change_transcript_laws.specs.Pieces.{config_at}
use Rattle.change_runner.specs.Replacing.{Replaced, WentThrough}
use Rattle.change_runner.proofs.ChangeLemmas.{replaced}
use Rattle.change_runner.proofs.replacing.replace.Goals as goal
use Rattle.std.proofs.lemmas.Result.{IfOk-weaker}

pub prepare-requires : goal.prepare-requires
prepare-requires g c =
    let h = c.requires in
    record { planned = (h.0, c.args.change.moves, h.1, h.2) }

pub go_through-requires : goal.go_through-requires
go_through-requires g c =
    let W = g.B.Board in
    let h = c.requires in
    let x = c.args.change in
    let e = c.args.engine.now in
    let f = c.prepare.new.self in
    let p = subst (λ xs. HasPrepared W e f x.name xs x.plan x.graph) c.into_vec.ensures c.in_ok-prepare.ensures.ok in
    (h.0 ++ said (to.Change x.name x.args) ∷ [], x.moves, p.prepares h.0 x.moves h.1 h.2)

pub returns : goal.returns
returns g c =
    let W = g.B.Board in
    let x = c.args.change in
    let e = c.args.engine.now in
    let f = c.prepare.new.self in
    let d = c.go_through.new.engine in
    let p = subst (λ xs. HasPrepared W e f x.name xs x.plan x.graph) c.into_vec.ensures c.in_ok-prepare.ensures.ok in
    IfOk-weaker c.go_through.result (λ left. WentThrough W f d x.plan x.graph x.within left) (λ left. (t : List Item) → IsIdle W e t → IsPlanned e.graph x.graph x.moves x.plan (config_at t) → Replaced W e d t x left) (λ left w t idle planned. replaced W e f d x p t idle planned left w) c.go_through.ensures
