use Rattle.std.proofs.Common.{subst}
use Rattle.change_engine.specs.Calls.{HasSkipped}
use Rattle.change_runner.proofs.DoingLemmas.{skipped}
use Rattle.change_runner.proofs.running.skip_change.Goals as goal

pub returns : goal.returns
returns g c = λ t idle given.
    let W = g.B.Board in
    let e = c.args.engine.now in
    let f = c.skip.new.self in
    skipped W e f c.args.change (subst (λ xs. HasSkipped W e f c.args.change.name xs) c.into_vec.ensures c.in_ok-skip.ensures.ok) t idle given
