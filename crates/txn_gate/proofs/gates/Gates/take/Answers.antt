use Rattle.std.proofs.Common.{◌∙◌, ap, subst, sym, None}
use Rattle.txn_spec.specs.Views.{node_at, node_of}
use Rattle.node_gate.specs.Answers.{TakeSays}
use Rattle.txn_gate.specs.Calls.{taken_in}
use Rattle.txn_gate.proofs.Saying.{take_says}
use Rattle.txn_gate.proofs.gates.Gates.take.Goals as goal

pub returns-clause-says : goal.returns-clause-says
returns-clause-says c =
    let n = node_of c.args.seat.now.seat.me.0 in
    subst (TakeSays None (node_at n) c.args.port)
    (sym (c.taken.ensures ∙ ap (λ i. taken_in i c.take_word-found.result) (c.take_word-found.ensures.slot ∙ sym c.args.seat.now.slot_is)))
    (take_says n c.args.port c.take_word-found.result c.take_word-found.ensures.shown)
