use Rattle.std.proofs.Common.{◌+◌, ◌*◌, ◌≤◌, length, map}
use Rattle.darwin_lexer.specs.declared.token.TokenKind.TheVariants as kinds
use Rattle.darwin_lexer.specs.declared.token.Sign.TheVariants as signs
use Rattle.darwin_parser.specs.Tree.{stmt_of}
use Rattle.darwin_parser.specs.Reading.{statement, block_body, appended}
use Rattle.darwin_parser.proofs.Loops.{TurningUpTo}
use Rattle.darwin_parser.proofs.source.Source.+statement.Given as goal

abbrev pub decreases-statement : goal.decreases-statement
decreases-statement l = 8 * l.nesting + 1

abbrev pub decreases-block : goal.decreases-block
decreases-block l = 8 * l.nesting

abbrev pub decreases-block_over : goal.decreases-block_over
decreases-block_over l = 8 * l.nesting + 5

abbrev pub decreases-forall : goal.decreases-forall
decreases-forall l = 8 * l.nesting + 4

abbrev pub decreases-when : goal.decreases-when
decreases-when l = 8 * l.nesting + 4

abbrev pub decreases-body : goal.decreases-body
decreases-body l = 8 * l.nesting + 3

abbrev pub decreases-block_body : goal.decreases-block_body
decreases-block_body l = 8 * l.nesting + 2

abbrev pub invariant-block_body-more : goal.invariant-block_body-more
invariant-block_body-more l = record {
  turning : TurningUpTo (kinds.Sign signs.CloseBrace) appended (statement l.self.text.now 32 l.nesting) (block_body (statement l.self.text.now 32 l.nesting) l.fn.tokens.rest.now) (map stmt_of l.body.items) l.tokens.rest.now;
  shorter : length l.tokens.rest.now ≤ length l.fn.tokens.rest.now;
}

abbrev pub decreases-block_body-more : goal.decreases-block_body-more
decreases-block_body-more l = length l.tokens.rest.now
