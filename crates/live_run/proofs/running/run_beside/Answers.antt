use Rattle.change_spec.specs.Asked.{statements_of}
use Rattle.live_run.proofs.running.run_beside.Goals as goal

pub returns-clause-agrees : goal.returns-clause-agrees
returns-clause-agrees g c =
    let x = c.in_ok-report in
    c.look_last.ensures.agrees (statements_of c.args.start c.args.steps.items) x.report x.ensures.carried
