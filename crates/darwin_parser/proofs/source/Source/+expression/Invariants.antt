use Rattle.std.proofs.Common.{◌+◌, ◌*◌, ◌<◌, length}
use Rattle.darwin_parser.specs.Tree.{expr_of}
use Rattle.darwin_parser.specs.Grammar.{with_right}
use Rattle.darwin_parser.specs.Reading.{chain, factor, operand_over, sees_operator, next_operand}
use Rattle.darwin_parser.proofs.Loops.{Turning}
use Rattle.darwin_parser.proofs.Ranks.{rank}
use Rattle.darwin_parser.proofs.source.Source.+expression.Given as goal

abbrev pub decreases-chain : goal.decreases-chain
decreases-chain l = 18 * l.nesting + rank l.level + 2

abbrev pub decreases-next_operand : goal.decreases-next_operand
decreases-next_operand l = 18 * l.nesting + rank l.level + 1

abbrev pub decreases-operand : goal.decreases-operand
decreases-operand l = 18 * l.nesting + rank l.level

abbrev pub decreases-comparison : goal.decreases-comparison
decreases-comparison l = 18 * l.nesting + 10

abbrev pub decreases-factor : goal.decreases-factor
decreases-factor l = 18 * l.nesting + 1

abbrev pub decreases-nested : goal.decreases-nested
decreases-nested l = 18 * l.nesting

abbrev pub decreases-nested_over : goal.decreases-nested_over
decreases-nested_over l = 18 * l.nesting + 17

abbrev pub invariant-chain-more : goal.invariant-chain-more
invariant-chain-more l = let operand = operand_over (factor l.self.text.now l.nesting) l.level in record {
  turning : Turning (sees_operator l.level) with_right (next_operand l.level operand) (chain l.level operand l.fn.tokens.rest.now) (expr_of l.left) l.tokens.rest.now;
  shorter : length l.tokens.rest.now < length l.fn.tokens.rest.now;
}

abbrev pub decreases-chain-more : goal.decreases-chain-more
decreases-chain-more l = length l.tokens.rest.now
