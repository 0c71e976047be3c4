use Rattle.std.proofs.Common.{length, ap, ◌∙◌, subst}
use Rattle.quiesce_core.specs.declared.event.Event.TheVariants.{Make}
use Rattle.quiesce_core.specs.State.{Configuration}
use Rattle.txn_records.specs.Records.{May}
use Rattle.change_board.proofs.DeedLemmas.{does_make, next_slot}
use Rattle.change_board.proofs.stepping.make_in.Goals as goal

pub make-requires-clause-may : goal.make-requires-clause-may
make-requires-clause-may g c =
    let r = c.requires.may.0 in
    (r, c.requires.may.1, subst (λ n. May r (Make n c.args.node c.args.from)) (next_slot r c.args.slot c.args.node c.args.from c.requires.may.2) c.requires.may.2)

pub returns-clause-board : goal.returns-clause-board
returns-clause-board g c =
    let q = c.requires.may in
    does_make g.B.Board c.args.board.now c.make.new.self c.args.slot c.args.node c.args.from
    (λ r s. next_slot q.0 c.args.slot c.args.node c.args.from q.2
    ∙ ap (λ (d : Configuration). length d.slots) (g.met.B.Board.one_configuration c.args.board.now q.0 r q.1 s))
    c.make.ensures.board
