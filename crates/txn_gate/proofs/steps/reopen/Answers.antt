use Rattle.std.proofs.Common.{arith}
use Rattle.txn_gate.proofs.AsSeats as seats
use Rattle.txn_gate.proofs.steps.reopen.Goals as goal

pub fetch_and-requires : goal.fetch_and-requires
fetch_and-requires g c = (c.requires.here.same, (let w = c.requires.here.words in let few = c.place_of_port.ensures.few in omega arith), seats.reopens _ _ c.args.seat.now.me c.requires.here.change c.args.port c.place_of_port.result c.place_of_port.ensures.place _ c.requires.event c.requires.may)
