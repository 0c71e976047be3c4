use Rattle.elaborator.proofs.VerdictLemmas.{a_fault_or_a_graph}
use Rattle.elaborator.proofs.laws.a_graph_or_a_fault.Goals as goal

pub returns : goal.returns
returns c = a_fault_or_a_graph
