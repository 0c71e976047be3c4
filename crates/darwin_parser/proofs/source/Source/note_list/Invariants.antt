use Rattle.std.proofs.Common.{◌≤◌, length}
use Rattle.darwin_lexer.specs.declared.token.TokenKind.TheVariants as kinds
use Rattle.darwin_lexer.specs.declared.token.Sign.TheVariants as signs
use Rattle.darwin_parser.specs.Reading as reading
use Rattle.darwin_parser.specs.Reading.{sees, pushed, expect, ◌>>◌, ◌>>=◌, pure}
use Rattle.darwin_parser.proofs.Loops.{OwingUpTo}
use Rattle.darwin_parser.proofs.source.Source.note_list.Given as goal

abbrev pub invariant-more : goal.invariant-more
invariant-more l = record {
  owing : OwingUpTo (kinds.Sign signs.Greater) pushed (reading.note l.self.text.now) (reading.note_list l.self.text.now l.fn.tokens.rest.now) l.notes.items l.tokens.rest.now;
  shorter : length l.tokens.rest.now ≤ length l.fn.tokens.rest.now;
}

abbrev pub decreases-more : goal.decreases-more
decreases-more l = length l.tokens.rest.now
