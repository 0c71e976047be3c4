use Rattle.std.proofs.Common.{◌≡◌, replicate}
use Rattle.port_queue.specs.Plain.{empty_box}
use Rattle.port_queue.proofs.plain.empty_inboxes.Given as goal

abbrev pub invariant-loop : goal.invariant-loop
invariant-loop l = l.inboxes.items ≡ replicate l.counter empty_box
