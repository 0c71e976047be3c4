use Rattle.std.proofs.Common.{◌≡◌, [], length, take}
use Rattle.change_parts.specs.Classes.{AreClasses}
use Rattle.change_parts.proofs.classes.tie_all.Given as goal

abbrev pub invariant-loop-pair : goal.invariant-loop-pair
invariant-loop-pair l = record {
  long : length l.least ≡ length l.initial.least;
  are : AreClasses [] l.initial.least → AreClasses (take l.pair-index l.ties) l.least;
}
