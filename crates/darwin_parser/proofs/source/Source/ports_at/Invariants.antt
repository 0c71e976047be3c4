use Rattle.std.proofs.Common.{◌≤◌, length, map}
use Rattle.darwin_parser.specs.Tree.{port_of}
use Rattle.darwin_parser.specs.Reading as reading
use Rattle.darwin_parser.specs.Reading.{sees, pushed, expect, ◌>>◌, ◌>>=◌, pure}
use Rattle.darwin_parser.proofs.Loops.{comma, Owing}
use Rattle.darwin_parser.proofs.source.Source.ports_at.Given as goal

abbrev pub invariant-more : goal.invariant-more
invariant-more l = record {
  owing : Owing (sees comma) pushed (expect comma >> reading.port l.self.text.now 32 l.side l.at) (reading.port l.self.text.now 32 l.side l.at) (reading.ports_at l.self.text.now 32 l.side l.at l.fn.tokens.rest.now) (map port_of l.ports.items) l.tokens.rest.now;
  shorter : length l.tokens.rest.now ≤ length l.fn.tokens.rest.now;
}

abbrev pub decreases-more : goal.decreases-more
decreases-more l = length l.tokens.rest.now
