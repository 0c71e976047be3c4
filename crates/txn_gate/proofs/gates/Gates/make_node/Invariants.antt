use Rattle.quiesce_core.specs.declared.event.Event.TheVariants.{Make}
use Rattle.txn_gate.proofs.gates.Gates.make_node.Given as goal

abbrev pub ghosts-make_slot : goal.ghosts-make_slot
ghosts-make_slot a = record { event = Make a.slot a.node.now a.from }
