use Rattle.std.proofs.Common.{◌≡◌, map, take}
use Rattle.config_graph.specs.Indexes.{incoming}
use Rattle.config_graph.proofs.indexes.list_incoming.Given as goal

abbrev pub invariant-loop-link : goal.invariant-loop-link
invariant-loop-link l =
    map (λ ports. ports.items) l.incoming.items ≡ incoming (record { nodes = l.nodes; links = take l.link-index l.links })
