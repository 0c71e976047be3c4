use Rattle.std.proofs.Common.{ℕ, List, subst}
use Rattle.change_board.specs.Transcripts.{Item}
use Rattle.change_engine.specs.Engines.{IsIdle}
use Rattle.change_engine.specs.declared.passivating.LeftRoot.{LeftRoot}
use Rattle.change_parts.specs.Carrying.{CanCarryOutAll}
use Rattle.change_plan_laws.specs.Committing.{made_in}
use Rattle.step_runner.specs.Rolling.{HasRolledUpTo, WherePending}
use Rattle.change_transcript_laws.specs.Pieces.{config_at}
use Rattle.step_runner.proofs.round_rolling.roll_part.Goals as goal

pub returns-in-Ok : goal.returns-in-Ok
returns-in-Ok g c = λ t idle can. c.in-Ok.ensures.ok t idle can

pub returns-in_ok-part-in-Err : goal.returns-in_ok-part-in-Err
returns-in_ok-part-in-Err g c = λ t idle can.
    let W = g.B.Board in
    let e = c.args.engine.now in
    let f = c.roll.new.engine in
    let ps = c.args.parts.items in
    let UpTo : ℕ → List LeftRoot → Type 0 = λ part left. (t : List Item) → IsIdle W e t → CanCarryOutAll e.graph (made_in (config_at t)) ps
    → HasRolledUpTo W e f c.args.name c.args.args.items c.args.within t ps part left in
    let named = c.in_ok-part-in-Err.ensures in
    (named.0, (subst (WherePending UpTo) named.1 c.in-Err.ensures.pending) t idle can)
