use Rattle.std.proofs.Common.{ap, arith}
use Rattle.txn_gate.proofs.AsJoined as joined
use Rattle.txn_gate.proofs.seat_steps.sight.Goals as goal

pub join_seat-requires : goal.join_seat-requires
join_seat-requires c = (
  c.requires.here.same,
  c.requires.node_here.same,
  ap (λ m. m.1) c.requires.node_here.node,
  (let w = c.requires.here.words in omega arith),
  joined.takes_sight _ c.args.seat.now.me c.requires.here.change _ c.args.node.me c.requires.node_here.node,
)
