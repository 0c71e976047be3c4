-- The members that came are a way, and each leaves one less and adds three candidates at most.
use Rattle.std.proofs.Common.{◌+◌, ◌*◌, length}
use Rattle.merge_laws.specs.Guarded.{left}
use Rattle.report_check.specs.Going.{IsPlaced, left_behind}
use Rattle.report_check.specs.Ways.{LeadsOn}
use Rattle.report_check.proofs.going.follow.Given as goal

abbrev pub invariant-loop-chain : goal.invariant-loop-chain
invariant-loop-chain l =
    record {
      leads : LeadsOn (left_behind l.initial.way l.history l.logs) (left_behind l.way l.history l.logs);
      placed : IsPlaced l.way l.history l.logs;
    }

abbrev pub decreases-loop-chain : goal.decreases-loop-chain
decreases-loop-chain l = 4 * left (left_behind l.way l.history l.logs) + length l.candidates.chains.items
