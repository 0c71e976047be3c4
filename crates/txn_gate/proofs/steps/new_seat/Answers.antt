use Rattle.std.proofs.Common.{arith}
use Rattle.txn_gate.proofs.AsSeats as seats
use Rattle.txn_gate.proofs.steps.new_seat.Goals as goal

pub split_seat-requires : goal.split_seat-requires
split_seat-requires c = (c.requires.here.same, (let w = c.requires.here.words in omega arith), seats.gives_seat 0 _ c.args.seat.now.me c.requires.here.change c.requires.made)
