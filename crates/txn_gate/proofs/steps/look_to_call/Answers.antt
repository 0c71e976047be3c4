use Rattle.std.proofs.Common.{arith}
use Rattle.txn_spec.specs.Steps.{LooksToCallBy}
use Rattle.txn_gate.proofs.AsSeats as seats
use Rattle.txn_gate.proofs.steps.look_to_call.Goals as goal

pub load-requires : goal.load-requires
load-requires c = (c.requires.here.same, (let w = c.requires.here.words in let few = c.place_of_port.ensures.few in omega arith), seats.looks_to_call _ _ c.args.seat.now.me c.requires.here.node c.args.port c.place_of_port.result c.place_of_port.ensures.place c.args.value c.requires.port c.requires.may)

-- the call is missed, or may be made by this word
pub returns-clause-missed : goal.returns-clause-missed
returns-clause-missed c missing = seats.when _ _ _ _ (seats.told LooksToCallBy c.args.seat.now.me _ _ c.args.port c.place_of_port.result c.place_of_port.ensures.place c.requires.port c.load.ensures.2).0 missing

pub returns-clause-found : goal.returns-clause-found
returns-clause-found c there = seats.unless _ _ _ _ (seats.told LooksToCallBy c.args.seat.now.me _ _ c.args.port c.place_of_port.result c.place_of_port.ensures.place c.requires.port c.load.ensures.2).0 there

pub returns-clause-shown : goal.returns-clause-shown
returns-clause-shown c = (seats.told LooksToCallBy c.args.seat.now.me _ _ c.args.port c.place_of_port.result c.place_of_port.ensures.place c.requires.port c.load.ensures.2).1
