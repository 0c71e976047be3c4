use Rattle.std.proofs.Common.{◌≤◌, length, map}
use Rattle.darwin_parser.specs.Tree.{expr_of}
use Rattle.darwin_parser.specs.Reading as reading
use Rattle.darwin_parser.specs.Reading.{sees, pushed, expect, ◌>>◌, ◌>>=◌, pure}
use Rattle.darwin_parser.proofs.Loops.{comma, Owing}
use Rattle.darwin_parser.proofs.source.Source.exprs.Given as goal

abbrev pub invariant-more : goal.invariant-more
invariant-more l = record {
  owing : Owing (sees comma) pushed (expect comma >> reading.expr l.self.text.now 32) (reading.expr l.self.text.now 32) (reading.exprs l.self.text.now 32 l.fn.tokens.rest.now) (map expr_of l.exprs.items) l.tokens.rest.now;
  shorter : length l.tokens.rest.now ≤ length l.fn.tokens.rest.now;
}

abbrev pub decreases-more : goal.decreases-more
decreases-more l = length l.tokens.rest.now
