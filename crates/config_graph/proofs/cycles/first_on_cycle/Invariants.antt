use Rattle.std.proofs.Common.{ℕ, ◌<◌}
use Rattle.config_graph.specs.Cycles.{OnCycle}
use Rattle.config_graph.proofs.cycles.first_on_cycle.Given as goal

abbrev pub invariant-loop-node : goal.invariant-loop-node
invariant-loop-node l = (i : ℕ) → i < l.node → ¬ OnCycle l.graph i
