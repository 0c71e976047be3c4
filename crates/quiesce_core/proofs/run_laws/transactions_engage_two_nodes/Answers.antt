use Rattle.quiesce_core.proofs.EngagedLaws.{self_links_are_buffers, targets_are_engaged, two_nodes_or_a_buffer}
use Rattle.quiesce_core.proofs.run_laws.transactions_engage_two_nodes.Goals as goal

pub returns : goal.returns
returns c = record {
  target = targets_are_engaged;
  apart = two_nodes_or_a_buffer;
  linked = λ config p t m sound leads same there. self_links_are_buffers config sound p t leads same m there;
}
