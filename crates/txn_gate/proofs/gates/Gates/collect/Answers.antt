use Rattle.txn_gate.proofs.Sighted.{holds_seat}
use Rattle.txn_gate.proofs.gates.Gates.collect.Goals as goal

pub meet-requires-clause-some : goal.meet-requires-clause-some
meet-requires-clause-some c = (_, holds_seat c.args.seat.now.seat.me c.args.node.seat.me c.take_in.new.seat.me c.take_in.ensures.me)
