use Rattle.node_gate.proofs.SeatLaws.{new_seats_fit, seats_stay}
use Rattle.node_gate.proofs.laws.seats_of_live_nodes_fit.Goals as goal

pub returns-clause-new : goal.returns-clause-new
returns-clause-new c = new_seats_fit

pub returns-clause-others : goal.returns-clause-others
returns-clause-others c = seats_stay
