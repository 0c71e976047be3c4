use Rattle.std.proofs.Common.{◌≡◌, ◌++◌, filter_map, take}
use Rattle.std.specs.List.{enumerate_from}
use Rattle.config_graph.specs.Graph.{ports}
use Rattle.quiesce_laws.specs.Starts.{link_of}
use Rattle.change_lists.proofs.starting.push_links.Given as goal

abbrev pub invariant-loop-port : goal.invariant-loop-port
invariant-loop-port l = l.events.items ≡ l.initial.events.items ++ filter_map (link_of l.graph) (take l.port (enumerate_from 0 (ports l.graph.nodes)))
