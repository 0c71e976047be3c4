use Rattle.std.proofs.Common.{◌≡◌, ◌++◌}
use Rattle.change_runner.proofs.RunLemmas.{Progress}
use Rattle.change_runner.proofs.running.run_statements.Given as goal

abbrev pub invariant-loop-step : goal.invariant-loop-step
invariant-loop-step g l =
    (goal.iterator-loop-step g).can_next l.step-iterator ×
    (goal.iterator-loop-step g).is_finite l.step-iterator ×
    Progress g.B.Board g.L.Listener.heard l.fn.start l.yielded l.step-iterator.rest.items l.engine l.listener l.given_up ×
    (l.yielded ++ l.step-iterator.rest.items ≡ l.fn.steps.items)
