use Rattle.std.proofs.Common.{drop}
use Rattle.change_parts.specs.Parts.{ArePlansWithin}
use Rattle.rows_machine.proofs.part_rows.push_parts.Given as goal

abbrev pub invariant-loop-index : goal.invariant-loop-index
invariant-loop-index l = ArePlansWithin l.before (drop l.index l.parts)
