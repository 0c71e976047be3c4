use Rattle.std.proofs.Common.{arith, rules}
use Rattle.txn_spec.specs.Steps.{LooksAtBy}
use Rattle.txn_gate.proofs.AsSeats as seats
use Rattle.txn_gate.proofs.steps.look.Goals as goal

pub load-requires : goal.load-requires
load-requires c = (c.requires.here.same, (let w = c.requires.here.words in let few = c.place_of_port.ensures.few in omega arith), seats.looks _ _ c.args.seat.now.me c.requires.here.change c.args.port c.place_of_port.result c.place_of_port.ensures.place c.requires.port)

pub returns-clause-did : goal.returns-clause-did
returns-clause-did c = record { here = search rules; me = (seats.told LooksAtBy c.args.seat.now.me _ _ c.args.port c.place_of_port.result c.place_of_port.ensures.place c.requires.port c.load.ensures.2).0 }
