use Rattle.std.proofs.Common.{◌∙◌, ◌<◌, arith, below_more, sym}
use Rattle.std.proofs.lemmas.Option.{get_or_from_slice_get}
use Rattle.component_trait.specs.Moves as moves
use Rattle.base.proofs.BytesLaws.{alike, unlike}
use Rattle.report_check.proofs.leading.has_numbers.Goals as goal

pub returns-then-state_word-number : goal.returns-then-state_word-number
returns-then-state_word-number g c =
    unlike (moves.numbers (g.C.Component.state c.args.node.now)) c.args.numbers.now c.loop-index.index c.state_word.result c.state_word.ensures c.if-state_word-number.true

pub loop-index-preserved : goal.loop-index-preserved
loop-index-preserved g c =
    below_more _ _ c.loop-index.invariant
    (get_or_from_slice_get (moves.numbers (g.C.Component.state c.args.node.now)) c.loop-index.index c.state_word.result 0 c.state_word.ensures ∙ c.if-state_word-number.false)

pub returns : goal.returns
returns g c =
    alike (moves.numbers (g.C.Component.state c.args.node.now)) c.args.numbers.now (sym c.state_len.ensures ∙ c.if-state_len-numbers.false)
    (λ k low. c.loop-index.invariant k (let e : k < c.loop-index.index = omega (arith, low, c.loop-index-test.false, c.state_len.ensures, c.if-state_len-numbers.false) in e))
