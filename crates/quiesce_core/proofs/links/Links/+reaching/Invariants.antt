use Rattle.std.proofs.Common.{◌≡◌, ℕ, ◌-◌, ◌+◌, ◌*◌, ◌&&◌}
use Rattle.std.specs.List.{list_any, range_with_len}
use Rattle.quiesce_core.specs.State as state
use Rattle.quiesce_core.specs.Reach as reach
use Rattle.quiesce_core.specs.Searched.{AreKnown, reaches_through}
use Rattle.quiesce_core.specs.Links.{config_in}
use Rattle.quiesce_core.proofs.links.Links.+reaching.Given as goal

abbrev pub decreases-reaches : goal.decreases-reaches
decreases-reaches l = 2 * l.depth + 1

abbrev pub decreases-reaches_from : goal.decreases-reaches_from
decreases-reaches_from l = 2 * l.depth

-- the ports from this one on have the answer
abbrev pub invariant-reaches_from-loop-port : goal.invariant-reaches_from-loop-port
invariant-reaches_from-loop-port l =
    let c = config_in l.self in
    let test : ℕ → _ = λ q. state.depends c l.target.node l.target.provide q && reach.reaches c l.node q in
    record {
      known : AreKnown c l.node l.known;
      left : list_any test (range_with_len l.port (l.port-end - l.port)) ≡ reaches_through c l.node l.target;
    }
