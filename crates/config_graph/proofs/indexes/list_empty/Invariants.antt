use Rattle.std.proofs.Common.{◌≡◌, [], map, replicate}
use Rattle.config_graph.proofs.indexes.list_empty.Given as goal

abbrev pub invariant-loop : goal.invariant-loop
invariant-loop l = map (λ ports. ports.items) l.lists.items ≡ replicate l.counter []
