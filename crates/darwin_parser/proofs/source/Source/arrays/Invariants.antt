use Rattle.std.proofs.Common.{◌≤◌, length, map}
use Rattle.darwin_lexer.specs.declared.token.TokenKind.TheVariants as kinds
use Rattle.darwin_parser.specs.Tree.{array_of}
use Rattle.darwin_parser.specs.Reading as reading
use Rattle.darwin_parser.specs.Reading.{sees, pushed, expect, ◌>>◌, ◌>>=◌, pure}
use Rattle.darwin_parser.proofs.Loops.{Owing}
use Rattle.darwin_parser.proofs.source.Source.arrays.Given as goal

abbrev pub invariant-more : goal.invariant-more
invariant-more l = record {
  owing : Owing (sees kinds.Name) pushed (reading.arrayentry l.self.text.now 32) (reading.arrayentry l.self.text.now 32) (reading.array_list l.self.text.now 32 l.fn.tokens.rest.now) (map array_of l.arrays.items) l.tokens.rest.now;
  shorter : length l.tokens.rest.now ≤ length l.fn.tokens.rest.now;
}

abbrev pub decreases-more : goal.decreases-more
decreases-more l = length l.tokens.rest.now
