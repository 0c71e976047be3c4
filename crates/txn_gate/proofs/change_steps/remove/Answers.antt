use Rattle.std.proofs.Common.{arith}
use Rattle.txn_gate.proofs.AsLinked as seats
use Rattle.txn_gate.proofs.change_steps.remove.Goals as goal

pub load-requires : goal.load-requires
load-requires g c = (c.requires.here.same, (let w = c.requires.here.words in omega arith), seats.removes _ _ c.args.seat.now.me c.requires.here.change c.args.node 0 _ c.requires.event c.requires.may)
