use Rattle.elaborator.proofs.ElaborationLemmas.{answer-every_graph}
use Rattle.elaborator.proofs.elaborating.elaborate.Goals as goal

pub returns-clause-every_graph : goal.returns-clause-every_graph
returns-clause-every_graph c = λ g.
    answer-every_graph _ c.args.top.now c.args.args.now c.graph_or_fault.result g c.graph_or_fault.ensures.graph c.graph_or_fault.ensures.fault
