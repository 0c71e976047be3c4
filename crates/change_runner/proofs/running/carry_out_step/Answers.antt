use Rattle.std.proofs.Common.{sym, subst}
use Rattle.change_runner.specs.Doing.{Carried}
use Rattle.change_runner.proofs.DoingLemmas.{finished, ran, shown}
use Rattle.change_runner.proofs.running.carry_out_step.Goals as goal

pub returns-in_ok-run-in-Run-clause-carried : goal.returns-in_ok-run-in-Run-clause-carried
returns-in_ok-run-in-Run-clause-carried g c = λ t idle flag ready.
    let W = g.B.Board in
    let e = c.args.engine.now in
    let f = c.run.new.self in
    let x = c.in_ok-run-in-Run in
    subst (λ s. Carried W e f t s c.args.given_up) (sym c.in-Run.is) (ran W e f c.in-Run.k x.field-0 x.ensures.ok x.ensures.graph t c.args.given_up idle flag)

pub returns-in_ok-finish-in-Finish-clause-carried : goal.returns-in_ok-finish-in-Finish-clause-carried
returns-in_ok-finish-in-Finish-clause-carried g c = λ t idle flag ready.
    let W = g.B.Board in
    let e = c.args.engine.now in
    let f = c.finish.new.self in
    let x = c.in_ok-finish-in-Finish in
    subst (λ s. Carried W e f t s c.args.given_up) (sym c.in-Finish.is) (finished W e f c.in-Finish.n x.field-0 x.ensures.ok x.ensures.graph t c.args.given_up idle flag)

pub returns-in_ok-show-in-Show-clause-carried : goal.returns-in_ok-show-in-Show-clause-carried
returns-in_ok-show-in-Show-clause-carried g c = λ t idle flag ready.
    let W = g.B.Board in
    let e = c.args.engine.now in
    let f = c.show.new.self in
    let x = c.in_ok-show-in-Show in
    subst (λ s. Carried W e f t s c.args.given_up) (sym c.in-Show.is) (shown W e f x.ensures.ok x.ensures.graph t c.args.given_up idle flag)
