use Rattle.std.proofs.Common.{◌≡◌, drop}
use Rattle.command_program.specs.Ways.{last_graph}
use Rattle.command_program.proofs.way.last_graph.Given as goal

-- what is left leads to the same graph
abbrev pub invariant-loop-step : goal.invariant-loop-step
invariant-loop-step l = last_graph l.graph (drop l.step-index l.steps) ≡ last_graph l.start l.steps
