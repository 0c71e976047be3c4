use Rattle.std.proofs.Common.{ℕ, ◌<◌, IfSome}
use Rattle.config_graph.specs.Cycles.{leads_by}
use Rattle.config_graph.specs.Marks.{IsMarked}
use Rattle.config_graph.proofs.cycles.leads_only_to.Given as goal

abbrev pub invariant-loop-require : goal.invariant-loop-require
invariant-loop-require l = (r : ℕ) → r < l.require → IfSome (leads_by l.graph l.node r) (IsMarked l.bits)
