use Rattle.elaborator.specs.Expansion.{expanded_of}
use Rattle.elaborator.specs.Built.BuildFault.{in_bindings}
use Rattle.base.proofs.AnswerLaws.{Answers-exit}
use Rattle.elaborator.proofs.BuildLemmas.{built}
use Rattle.elaborator.proofs.building.build_graph.Goals as goal

pub returns-in_err-targets : goal.returns-in_err-targets
returns-in_err-targets c = λ top is_of.
    let e = expanded_of c.args.expansion.now in
    Answers-exit _ _ c.from_residual.ensures.1 (λ f fault. in_bindings f fault) c.in_err-targets.ensures

pub returns : goal.returns
returns c = λ top is_of.
    built (expanded_of c.args.expansion.now) top c.in_ok-graph.graph c.without_cycle.result c.in_ok-targets.ensures.no_fault (c.in_ok-graph.ensures top is_of) c.without_cycle.ensures
