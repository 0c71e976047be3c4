use Rattle.std.proofs.Common.{subst, sym, None}
use Rattle.txn_spec.specs.Views.{node_of}
use Rattle.node_gate.specs.Answers.{HearSays}
use Rattle.node_gate.specs.Seats.{MayHear}
use Rattle.txn_gate.proofs.Saying.{hear_says}
use Rattle.txn_gate.proofs.gates.Gates.hear.Goals as goal

pub returns-clause-says : goal.returns-clause-says
returns-clause-says c =
    let n = node_of c.args.seat.now.seat.me.0 in
    subst (HearSays None c.args.port) (sym c.heard.ensures)
    (hear_says n c.args.port c.hear_word-found.result c.hear_word-found.ensures.shown (subst (λ k. MayHear k c.args.port) (sym c.args.seat.now.known_is) c.requires.may))
