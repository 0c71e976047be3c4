use Rattle.std.proofs.Common.{◌≡◌, ◌≤◌, map}
use Rattle.std.specs.Prelude.{◌*◌, ◌^◌}
use Rattle.std.specs.List.{list_all, range_with_len}
use Rattle.change_board.specs.Scans.{ended_in, is_idle_if_live}
use Rattle.step_board.specs.Seeing.{found_at}
use Rattle.step_board.proofs.scanning.look_at_ports.Given as goal

abbrev pub invariant-loop-port : goal.invariant-loop-port
invariant-loop-port g l = record {
  idle : l.seen.idle ≡ list_all (is_idle_if_live (g.N.Nodes.machine l.nodes).config) (map (found_at (g.N.Nodes.machine l.nodes)) (range_with_len 0 l.port));
  ended : l.seen.ended ≡ ended_in (map (found_at (g.N.Nodes.machine l.nodes)) (range_with_len 0 l.port));
  few : l.seen.ended ≤ l.port * 2 ^ 24;
}
