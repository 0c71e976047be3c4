use Rattle.std.proofs.Common.{◌≡◌, length}
use Rattle.change_apply.specs.Reading.{GoesOn}
use Rattle.change_apply.proofs.reading.read_line.Given as goal

abbrev pub invariant-loop-taken : goal.invariant-loop-taken
invariant-loop-taken g l = record {
  long : length l.line.items ≡ l._taken;
  goes : GoesOn (g.R.Read.remaining l.initial.reader) (g.R.Read.remaining l.reader) l.line.items;
}
