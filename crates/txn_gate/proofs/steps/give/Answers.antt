use Rattle.std.proofs.Common.{arith}
use Rattle.txn_gate.proofs.AsSeats as seats
use Rattle.txn_gate.proofs.steps.give.Goals as goal

pub fetch_xor-requires : goal.fetch_xor-requires
fetch_xor-requires g c = (c.requires.here.same, (let w = c.requires.here.words in let few = c.place_of_port.ensures.few in omega arith), seats.gives _ _ c.args.seat.now.me c.requires.here.node c.args.port c.place_of_port.result c.place_of_port.ensures.place c.args.value c.args.operand _ c.requires.event c.requires.operand c.requires.may)
