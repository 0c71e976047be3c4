-- The members that came are a way, and each leaves one less.
use Rattle.merge_laws.specs.Guarded.{left}
use Rattle.report_check.specs.Going.{IsPlaced, left_behind}
use Rattle.report_check.specs.Ways.{LeadsOn}
use Rattle.report_check.proofs.going.go_on.Given as goal

abbrev pub invariant-loop-way : goal.invariant-loop-way
invariant-loop-way l =
    record {
      leads : LeadsOn (left_behind l.initial.way l.history l.logs) (left_behind l.way l.history l.logs);
      placed : IsPlaced l.way l.history l.logs;
    }

abbrev pub decreases-loop-way : goal.decreases-loop-way
decreases-loop-way l = left (left_behind l.way l.history l.logs)
