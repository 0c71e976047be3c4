use Rattle.std.proofs.Common.{arith}
use Rattle.txn_gate.proofs.AsJoined as joined
use Rattle.txn_gate.proofs.seat_steps.meet.Goals as goal

pub load-requires : goal.load-requires
load-requires c = (c.requires.here.same, (let w = c.requires.here.words in omega arith), joined.meets _ c.args.seat.now.me c.requires.here.change c.requires.some.0 c.requires.some.1 _ 0)
