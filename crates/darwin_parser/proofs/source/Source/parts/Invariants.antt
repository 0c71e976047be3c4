use Rattle.std.proofs.Common.{◌≤◌, length}
use Rattle.darwin_lexer.specs.declared.token.TokenKind.TheVariants as kinds
use Rattle.darwin_lexer.specs.declared.token.Sign.TheVariants as signs
use Rattle.darwin_parser.specs.Grammar.{with_item}
use Rattle.darwin_parser.specs.Views.{parts_of}
use Rattle.darwin_parser.specs.Reading as reading
use Rattle.darwin_parser.specs.Reading.{sees, pushed, expect, ◌>>◌, ◌>>=◌, pure}
use Rattle.darwin_parser.proofs.Loops.{TurningUpTo}
use Rattle.darwin_parser.proofs.source.Source.parts.Given as goal

abbrev pub invariant-more : goal.invariant-more
invariant-more l = record {
  turning : TurningUpTo (kinds.Sign signs.CloseBrace) with_item (reading.item l.self.text.now 32 16) (reading.parts l.self.text.now 32 16 l.fn.tokens.rest.now) (parts_of l.parts) l.tokens.rest.now;
  shorter : length l.tokens.rest.now ≤ length l.fn.tokens.rest.now;
}

abbrev pub decreases-more : goal.decreases-more
decreases-more l = length l.tokens.rest.now
