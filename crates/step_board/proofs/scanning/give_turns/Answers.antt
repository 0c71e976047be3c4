use Rattle.std.proofs.Common.{◌∙◌}
use Rattle.step_board.proofs.TurnLemmas.{gave_next, some_given, went_so_far}
use Rattle.base.proofs.AnswerLaws.{if_err}
use Rattle.step_board.proofs.scanning.give_turns.Goals as goal

pub loop-slot-preserved : goal.loop-slot-preserved
loop-slot-preserved g c =
    let S = g.N.Nodes.shows in
    let inv = c.loop-slot.invariant in
    let mid = c.loop-slot.nodes in
    let new = c.give_turn.new.nodes in
    record {
      room = c.give_turn.ensures.room ∙ inv.room;
      some = some_given S mid new c.args.begins c.loop-slot.slot c.in_ok-more.more c.in_ok-more.ensures.ok inv.some;
      gave = λ w s. gave_next S c.args.begins w c.loop-slot.slot mid new c.loop-slot.moved c.in_ok-more.more (g.met.N.Nodes.are_reached c.args.nodes.now w s) (inv.gave w s) c.in_ok-more.ensures.ok;
    }

pub returns-in_err-more-clause-err : goal.returns-in_err-more-clause-err
returns-in_err-more-clause-err g c =
    if_err
    (λ w s. went_so_far g.N.Nodes.shows c.args.begins w c.loop-slot.slot c.loop-slot.nodes c.give_turn.new.nodes c.loop-slot.moved
    (g.met.N.Nodes.are_reached c.args.nodes.now w s) (c.loop-slot.invariant.gave w s) c.in_err-more.ensures.err)
    c.from_residual.result
