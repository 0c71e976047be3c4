use Rattle.std.proofs.Common.{arith}
use Rattle.txn_gate.proofs.AsJoined as joined
use Rattle.txn_gate.proofs.seat_steps.give_out.Goals as goal

pub split_seat-requires : goal.split_seat-requires
split_seat-requires c = (c.requires.here.same, (let w = c.requires.here.words in omega arith), joined.gives_back _ c.args.seat.now.me c.requires.here.change c.requires.some.0 c.requires.some.1)
