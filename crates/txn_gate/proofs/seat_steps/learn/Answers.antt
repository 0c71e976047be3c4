use Rattle.std.proofs.Common.{arith}
use Rattle.txn_gate.proofs.AsJoined as joined
use Rattle.txn_gate.proofs.seat_steps.learn.Goals as goal

pub load-requires : goal.load-requires
load-requires c = (c.requires.here.same, (let w = c.requires.here.words in omega arith), joined.learns _ c.args.seat.now.me c.requires.here.change _ 0)
