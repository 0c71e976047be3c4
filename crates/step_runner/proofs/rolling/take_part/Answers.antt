use Rattle.std.proofs.Common.{List, Option, IfOk, sym, subst}
use Rattle.change_board.specs.Transcripts.{Item}
use Rattle.change_engine.specs.Engines.{IsIdle, IsPlanned}
use Rattle.change_engine.specs.declared.passivating.LeftRoot.{LeftRoot}
use Rattle.change_spec.specs.declared.steps.Replacement.{Replacement}
use Rattle.change_plan_laws.specs.Committing.{made_in}
use Rattle.change_parts.specs.Carrying.{CanCarryOut}
use Rattle.change_runner.specs.Replacing.{Replaced}
use Rattle.change_transcript_laws.specs.Pieces.{config_at}
use Rattle.step_runner.specs.Rolling.{replacement}
use Rattle.step_runner.proofs.RollLemmas.{part_is_planned}
use Rattle.step_runner.proofs.rolling.take_part.Goals as goal
use Rattle.std.proofs.lemmas.Result.{IfOk-weaker}

pub replace-requires : goal.replace-requires
replace-requires g c =
    let W = g.B.Board in
    let h = c.requires in
    let e = c.args.engine.now in
    subst (λ (x : Replacement). (t : List Item) × IsIdle W e t × IsPlanned e.graph x.graph x.moves x.plan (config_at t)) (sym c.in_ok-change.ensures)
    (h.0, h.1, part_is_planned e.graph h.0 c.args.part h.2)

pub returns : goal.returns
returns g c =
    let W = g.B.Board in
    let e = c.args.engine.now in
    let f = c.replace.new.engine in
    let p = c.args.part in
    let x = replacement c.args.name.now c.args.args.now c.args.rounds p in
    let Answers_ : Replacement → Option (List LeftRoot) → Type 0 =
    λ y left. (t : List Item) → IsIdle W e t → IsPlanned e.graph y.graph y.moves y.plan (config_at t) → Replaced W e f t y left in
    IfOk-weaker c.replace.result (Answers_ x) (λ left. (t : List Item) → IsIdle W e t → CanCarryOut e.graph (made_in (config_at t)) p → Replaced W e f t x left) (λ left given t idle can. given t idle (part_is_planned e.graph t p can)) (subst (λ y. IfOk c.replace.result (Answers_ y)) c.in_ok-change.ensures c.replace.ensures)
