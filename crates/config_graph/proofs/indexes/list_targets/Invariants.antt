use Rattle.std.proofs.Common.{◌≡◌, take}
use Rattle.config_graph.specs.Indexes.{targets}
use Rattle.config_graph.proofs.indexes.list_targets.Given as goal

abbrev pub invariant-loop-link : goal.invariant-loop-link
invariant-loop-link l = l.targets.items ≡ targets l.nodes (take l.link-index l.links)
