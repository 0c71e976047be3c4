use Rattle.std.proofs.Common.{◌≡◌, sum_by, take}
use Rattle.config_graph.specs.Graph.{requires_at}
use Rattle.command_program.proofs.way.count_ports.Given as goal

abbrev pub invariant-loop-place : goal.invariant-loop-place
invariant-loop-place l = l.ports ≡ sum_by (requires_at l.nodes) (take l.place-index l.places)
