use Rattle.std.proofs.Common.{◌≡◌, ◌-◌, ◌≤◌, length, ◌+◌}
use Rattle.darwin_lexer.specs.Positions.{place_of}
use Rattle.darwin_lexer.specs.Tokens.{Tokenizes}
use Rattle.darwin_lexer.proofs.lexing.lex.Given as goal

abbrev pub invariant-pieces : goal.invariant-pieces
invariant-pieces l = record {
  parted : Tokenizes l.text 0 l.start l.tokens.items;
  within : l.start ≤ length l.text;
  few : length l.tokens.items ≤ l.start;
  place : l.at ≡ place_of l.text l.start;
  line : l.at.line ≤ l.start + 1;
  column : l.at.column ≤ l.start + 1;
}

abbrev pub decreases-pieces : goal.decreases-pieces
decreases-pieces l = length l.text - l.start
