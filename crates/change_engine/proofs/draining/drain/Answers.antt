use Rattle.std.proofs.Common.{◌++◌, ap, ◌∙◌, subst, arith, length}
use Rattle.change_engine.specs.Breaking.{BrokeInRound}
use Rattle.change_engine.specs.Draining.{left_lines}
use Rattle.change_engine.specs.Passivating.{Passivated}
use Rattle.change_engine.proofs.ChangeLemmas.{waited}
use Rattle.change_engine.specs.Growing.{telling}
use Rattle.base.proofs.AnswerLaws.{if_err}
use Rattle.change_engine.proofs.draining.drain.Goals as goal

pub passivate-requires-clause-line_place : goal.passivate-requires-clause-line_place
passivate-requires-clause-line_place g c = omega (arith, c.requires.line_place)

pub push_pending-requires : goal.push_pending-requires
push_pending-requires g c =
    let x = c.in_ok-passivate.ensures in
    let left = c.passivate.new.waiting.left in
    record { place = omega (arith, x.len, x.capacity, left.ok.0, ap length c.deref.ensures.value, c.requires.line_place) }

pub returns-clause-ok : goal.returns-clause-ok
returns-clause-ok g c =
    let W = g.B.Board in
    let a = c.args.board.now in
    let b = c.passivate.new.board in
    let h = c.args.history.now.items in
    let i = c.passivate.new.history.items in
    let left = c.passivate.new.waiting.left.items in
    let ports = c.args.ports.now in
    waited W a b h i c.push_pending.new.history.items ports c.args.rounds left
    (subst (λ n. Passivated W (telling a h) (telling b i) ports n left) c.from.ensures c.in_ok-passivate.ensures.ok)
    (c.push_pending.ensures.lines ∙ ap (λ l. i ++ left_lines c.args.rounds l) c.deref.ensures.value)

pub returns-clause-len : goal.returns-clause-len
returns-clause-len g c =
    let x = c.in_ok-passivate.ensures in
    let left = c.passivate.new.waiting.left in
    omega (arith, x.len, c.push_pending.ensures.len, left.ok.0, ap length c.deref.ensures.value)

pub returns-in_err-passivate-clause-err : goal.returns-in_err-passivate-clause-err
returns-in_err-passivate-clause-err g c =
    if_err (subst (λ n. BrokeInRound g.B.Board (telling c.args.board.now c.args.history.now.items) (telling c.passivate.new.board c.passivate.new.history.items) c.args.ports.now n) c.from.ensures c.in_err-passivate.ensures.err) c.from_residual.result
