use Rattle.std.proofs.Common.{◌≡◌, ◌++◌, map, take}
use Rattle.std.specs.List.{enumerate_from}
use Rattle.quiesce_laws.specs.Starts.{make_of}
use Rattle.change_lists.proofs.starting.push_makes.Given as goal

abbrev pub invariant-loop-slot : goal.invariant-loop-slot
invariant-loop-slot l = l.events.items ≡ l.initial.events.items ++ map make_of (take l.slot (enumerate_from 0 l.graph.nodes))
