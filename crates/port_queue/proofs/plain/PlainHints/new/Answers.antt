use Rattle.std.proofs.Common.{Some, ap}
use Rattle.config_graph.specs.declared.TheConstants.{MAX_NODES}
use Rattle.port_queue.specs.Plain.{Box}
use Rattle.port_queue.proofs.Boxes.{empty_boxes}
use Rattle.port_queue.proofs.plain.PlainHints.new.Goals as goal

pub returns-clause-empty : goal.returns-clause-empty
returns-clause-empty c = λ node. ap (λ (b : Box). Some b.held) (empty_boxes c.in_ok-inboxes.inboxes.items node MAX_NODES c.in_ok-inboxes.ensures)

pub returns-clause-uncounted : goal.returns-clause-uncounted
returns-clause-uncounted c = λ node. ap (λ (b : Box). b.counts) (empty_boxes c.in_ok-inboxes.inboxes.items node MAX_NODES c.in_ok-inboxes.ensures)
