use Rattle.std.proofs.Common.{arith, rules}
use Rattle.txn_spec.specs.Steps.{LoadsWordBy}
use Rattle.txn_gate.proofs.AsSeats as seats
use Rattle.txn_gate.proofs.steps.load.Goals as goal

pub load-requires : goal.load-requires
load-requires c = (c.requires.here.same, (let w = c.requires.here.words in let few = c.place_of_port.ensures.few in omega arith), seats.loads _ _ c.args.seat.now.me c.requires.here.node c.args.port c.place_of_port.result c.place_of_port.ensures.place c.requires.port)

pub returns : goal.returns
returns c = let tells = seats.told LoadsWordBy c.args.seat.now.me _ _ c.args.port c.place_of_port.result c.place_of_port.ensures.place c.requires.port c.load.ensures.2 in record { here = search rules; me = tells.0; shown = tells.1 }
