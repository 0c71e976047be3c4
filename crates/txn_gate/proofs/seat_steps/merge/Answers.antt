use Rattle.std.proofs.Common.{arith, rules}
use Rattle.txn_gate.proofs.AsJoined as joined
use Rattle.txn_gate.proofs.AsSeats as seats
use Rattle.txn_spec.specs.Merging.{MergesBy}
use Rattle.txn_gate.proofs.seat_steps.merge.Goals as goal

pub load-requires : goal.load-requires
load-requires c = (c.requires.here.same, (let w = c.requires.here.words in let few = c.place_of_port.ensures.few in omega arith), joined.merges _ c.args.seat.now.me c.requires.here.change _ c.args.port c.place_of_port.result c.place_of_port.ensures.place c.requires.port c.requires.all)

pub returns-clause-did : goal.returns-clause-did
returns-clause-did c = record { here = search rules; me = (seats.told MergesBy c.args.seat.now.me _ _ c.args.port c.place_of_port.result c.place_of_port.ensures.place c.requires.port c.load.ensures.2).0 }
