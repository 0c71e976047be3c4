use Rattle.std.proofs.Common.{◌-◌, length}
use Rattle.config_graph.specs.Search.{seen_of}
use Rattle.config_graph.proofs.SearchLaws.{Searched}
use Rattle.config_graph.proofs.cycles.list_reached.Given as goal

abbrev pub invariant-loop-next : goal.invariant-loop-next
invariant-loop-next l = Searched l.graph l.start (seen_of l.bits.items l.reached.items) l.next

abbrev pub decreases-loop-next : goal.decreases-loop-next
decreases-loop-next l = length l.graph.nodes - l.next
