use Rattle.quiesce_core.proofs.SameWiringLaws.{alive_if, cycles_in_both}
use Rattle.quiesce_core.proofs.laws.cycles_are_those_of_the_graph.Goals as goal

pub returns-clause-exactly : goal.returns-clause-exactly
returns-clause-exactly call c g alive named is_graph = cycles_in_both c g alive named is_graph

pub returns-clause-alive : goal.returns-clause-alive
returns-clause-alive call s well consistent = alive_if s well.sound consistent
