use Rattle.txn_gate.specs.Seats.{node_in}
use Rattle.live_hall.proofs.turning.turn_at_gates.Given as goal

abbrev pub ghosts-turn_as : goal.ghosts-turn_as
ghosts-turn_as g a = record { made = (node_in a.node.now.seat).made }
