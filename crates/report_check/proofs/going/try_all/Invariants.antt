-- The history and the logs before this one were tried.
use Rattle.report_check.specs.Going.{IsPlaced, left_behind}
use Rattle.report_check.specs.Ways.{IsSwept}
use Rattle.report_check.proofs.going.try_all.Given as goal

abbrev pub invariant-loop-node : goal.invariant-loop-node
invariant-loop-node l =
    record {
      swept : IsSwept (left_behind l.fn.way l.history l.logs) l.came (left_behind l.way l.history l.logs) l.node;
      placed : IsPlaced l.way l.history l.logs;
    }
