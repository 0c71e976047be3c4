use Rattle.std.proofs.Common.{◌≡◌, ◌==◌, ◌&&◌, ◌-◌, ℕ, drop, length}
use Rattle.std.specs.Prelude.{find}
use Rattle.std.specs.HashMap as hash
use Rattle.config_graph.specs.declared.node.Link.{Link}
use Rattle.change_lists.proofs.LookupLemmas.{are_same_keys}
use Rattle.change_lists.proofs.lookups.map_links.Given as goal

abbrev pub invariant-loop-behind : goal.invariant-loop-behind
invariant-loop-behind l = (i r : ℕ) → hash.get are_same_keys l.by_start (i, r) ≡ find (λ (x : Link). (i == x.from) && (r == x.require)) (drop (length l.links - l.behind) l.links)
