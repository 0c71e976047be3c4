use Rattle.std.proofs.Common.{map}
use Rattle.change_spec.specs.Asked.{statement_of}
use Rattle.change_spec.specs.Statements.{graph_of}
use Rattle.report_check.proofs.StandingLemmas.{picked_more}
use Rattle.report_check.proofs.showing.push_graphs.Goals as goal

pub loop-step-preserved : goal.loop-step-preserved
loop-step-preserved c =
    picked_more (λ s. graph_of (statement_of s)) c.args.steps.now c.loop-step.step-index c.step-item.result (map (λ g. g.now) c.args.graphs.now.items) (map (λ g. g.now) c.loop-step.graphs.items)
    (map (λ g. g.now) c.push_graph.new.graphs.items) c.loop-step-test.true c.step-item.is c.loop-step.invariant c.in_ok-push_graph.ensures
