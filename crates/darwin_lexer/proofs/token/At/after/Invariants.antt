use Rattle.std.proofs.Common.{◌≡◌, ◌+◌, ◌≤◌, take, fold}
use Rattle.darwin_lexer.specs.Positions.{next}
use Rattle.darwin_lexer.proofs.token.At.after.Given as goal

abbrev pub invariant-loop-byte : goal.invariant-loop-byte
invariant-loop-byte l = record {
  place : l.at ≡ fold next l.fn.self (take l.byte-index l.bytes);
  line : l.at.line ≤ l.fn.self.line + l.byte-index;
  column : l.at.column ≤ l.fn.self.column + l.byte-index;
}
