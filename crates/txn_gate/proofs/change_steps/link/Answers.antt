use Rattle.std.proofs.Common.{arith}
use Rattle.txn_gate.proofs.AsLinked as seats
use Rattle.txn_gate.proofs.change_steps.link.Goals as goal

pub fetch_xor-requires : goal.fetch_xor-requires
fetch_xor-requires g c = (c.requires.here.same, (let w = c.requires.here.words in let few = c.place_of_port.ensures.few in omega arith), seats.links _ _ c.args.seat.now.me c.requires.here.change c.args.port c.place_of_port.result c.place_of_port.ensures.place _ c.args.to _ c.requires.event c.link_operand.ensures.operand c.requires.may)
