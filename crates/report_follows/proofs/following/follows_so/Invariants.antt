use Rattle.std.proofs.Common.{drop, take}
use Rattle.report_follows.proofs.ScriptLemmas.{Progress}
use Rattle.report_follows.proofs.following.follows_so.Given as goal

abbrev pub invariant-loop-step : goal.invariant-loop-step
invariant-loop-step l =
    Progress l.fn.start (take l.step-index l.steps) (drop l.step-index l.steps) l.fn.history l.reader.left.now l.reader.graph.now l.reader.layout l.reader.given_up
