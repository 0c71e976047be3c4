use Rattle.std.proofs.Common.{arith}
use Rattle.txn_gate.proofs.AsSeats as seats
use Rattle.txn_gate.proofs.steps.make.Goals as goal

pub fetch_or-requires : goal.fetch_or-requires
fetch_or-requires g c = (c.requires.here.same, (let w = c.requires.here.words in let few = c.requires.slot in let p = c.place_of.ensures in omega arith), seats.makes _ _ c.args.seat.now.me c.requires.here.change c.args.slot c.place_of.result c.args.word c.args.node.now c.args.from _ c.requires.event c.place_of.ensures c.requires.may c.requires.word)
