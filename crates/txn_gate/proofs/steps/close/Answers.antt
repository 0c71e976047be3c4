use Rattle.std.proofs.Common.{arith}
use Rattle.txn_gate.proofs.AsSeats as seats
use Rattle.txn_gate.proofs.steps.close.Goals as goal

pub fetch_or-requires : goal.fetch_or-requires
fetch_or-requires g c = (c.requires.here.same, (let w = c.requires.here.words in let few = c.place_of_port.ensures.few in omega arith), seats.closes _ _ c.args.seat.now.me c.requires.here.change c.args.port c.place_of_port.result c.place_of_port.ensures.place _ c.requires.event c.requires.may)
