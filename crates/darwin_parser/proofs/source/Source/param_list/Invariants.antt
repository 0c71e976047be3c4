use Rattle.std.proofs.Common.{◌≤◌, length}
use Rattle.darwin_parser.specs.Reading as reading
use Rattle.darwin_parser.specs.Reading.{sees, pushed, expect, ◌>>◌, ◌>>=◌, pure}
use Rattle.darwin_parser.proofs.Loops.{comma, Owing}
use Rattle.darwin_parser.proofs.source.Source.param_list.Given as goal

abbrev pub invariant-more : goal.invariant-more
invariant-more l = record {
  owing : Owing (sees comma) pushed (expect comma >> reading.param l.self.text.now) (reading.param l.self.text.now) (reading.param_list l.self.text.now l.fn.tokens.rest.now) l.params.items l.tokens.rest.now;
  shorter : length l.tokens.rest.now ≤ length l.fn.tokens.rest.now;
}

abbrev pub decreases-more : goal.decreases-more
decreases-more l = length l.tokens.rest.now
