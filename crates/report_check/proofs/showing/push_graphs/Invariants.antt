use Rattle.std.proofs.Common.{◌≡◌, ◌++◌, filter_map, map, take}
use Rattle.change_spec.specs.Asked.{statement_of}
use Rattle.change_spec.specs.Statements.{graph_of}
use Rattle.report_check.proofs.showing.push_graphs.Given as goal

abbrev pub invariant-loop-step : goal.invariant-loop-step
invariant-loop-step l = map (λ g. g.now) l.graphs.items ≡ map (λ g. g.now) l.initial.graphs.items ++ filter_map (λ s. graph_of (statement_of s)) (take l.step-index l.steps)
