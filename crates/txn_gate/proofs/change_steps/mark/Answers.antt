use Rattle.std.proofs.Common.{arith}
use Rattle.txn_gate.proofs.AsLinked as seats
use Rattle.txn_gate.proofs.change_steps.mark.Goals as goal

pub load-requires : goal.load-requires
load-requires g c = (c.requires.here.same, (let w = c.requires.here.words in omega arith), seats.marks _ _ c.args.seat.now.me c.requires.here.change g.M.Marks.begins g.M.Marks.moved 0)
