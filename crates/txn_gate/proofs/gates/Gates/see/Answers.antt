use Rattle.std.proofs.Common.{subst, sym, None}
use Rattle.txn_spec.specs.Views.{node_at, node_of}
use Rattle.node_gate.specs.Answers.{SeeSays}
use Rattle.node_gate.specs.Seats.{MaySee}
use Rattle.txn_gate.proofs.Saying.{see_says}
use Rattle.txn_gate.proofs.gates.Gates.see.Goals as goal

pub returns-clause-says : goal.returns-clause-says
returns-clause-says c =
    let n = node_of c.args.seat.now.seat.me.0 in
    subst (SeeSays None c.args.port) (sym c.seen-answer.ensures)
    (see_says n c.args.port c.see-found.result c.see-found.ensures.shown (subst (λ k. MaySee (node_at n) k c.args.port) (sym c.args.seat.now.known_is) c.requires.may))
