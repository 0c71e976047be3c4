use Rattle.std.proofs.Common.{◌∙◌}
use Rattle.component_trait.specs.Moves as moves
use Rattle.base.proofs.PlaceLaws.{taken_more}
use Rattle.step_board.proofs.tables.numbers_of.Goals as goal

pub loop-index-preserved : goal.loop-index-preserved
loop-index-preserved g c =
    c.in_ok-push.ensures.items
    ∙ taken_more (moves.numbers (g.C.Component.state c.args.node.now)) c.loop-index.numbers.items c.loop-index.index c.state_word.result c.state_word.ensures c.loop-index.invariant
