use Rattle.std.proofs.Common.{subst}
use Rattle.change_engine.specs.Beginning.{start_items}
use Rattle.change_engine.specs.Calls.{HasStarted}
use Rattle.step_runner.proofs.BeginLemmas.{begun}
use Rattle.step_runner.proofs.round_rolling.begin.Goals as goal

pub run-requires : goal.run-requires
run-requires g c =
    let s = c.in_ok-engine.ensures in
    record { idle = (start_items c.args.start.name c.into_vec.result.items s.deeds, s.idle) }

pub returns : goal.returns
returns g c =
    let W = g.B.Board in
    let start = c.args.start in
    let engine = c.in_ok-engine.engine in
    let s = subst (λ xs. HasStarted W engine start.name xs start.graph) c.into_vec.ensures c.in_ok-engine.ensures in
    begun W start c.args.k engine c.run.new.self c.in_ok-run.field-0 s c.in_ok-run.ensures.ok c.in_ok-run.ensures.graph
