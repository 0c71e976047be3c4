use Rattle.std.proofs.Common.{arith}
use Rattle.txn_gate.proofs.AsSeats as seats
use Rattle.txn_gate.proofs.steps.adopt.Goals as goal

pub load-requires : goal.load-requires
load-requires c = (c.requires.here.same, (let w = c.requires.here.words in let few = c.requires.within in let p = c.place_of.ensures in omega arith), seats.adopts _ _ c.args.seat.now.me c.requires.here.node c.args.slot c.place_of.result c.requires.slot c.place_of.ensures)
