use Rattle.std.proofs.Common.{◌≡◌, ◌==◌, ◌&&◌, ℕ, take}
use Rattle.std.specs.List.{list_any}
use Rattle.std.specs.HashSet as bag
use Rattle.config_graph.specs.declared.node.Port.{Port}
use Rattle.change_lists.proofs.LookupLemmas.{are_same_keys}
use Rattle.change_lists.proofs.lookups.list_keys.Given as goal

abbrev pub invariant-loop-port : goal.invariant-loop-port
invariant-loop-port l = (i r : ℕ) → bag.contains are_same_keys l.keys (i, r) ≡ list_any (λ (q : Port). (i == q.node) && (r == q.require)) (take l.port-index l.ports)
