use Rattle.std.proofs.Common.{◌≡◌, ℕ, ◌-◌, ◌&&◌}
use Rattle.std.specs.List.{list_any, range_with_len}
use Rattle.quiesce_core.specs.State as state
use Rattle.quiesce_core.specs.Reach as reach
use Rattle.quiesce_core.specs.Searched.{AreKnown}
use Rattle.quiesce_core.specs.Links.{config_in}
use Rattle.quiesce_core.proofs.links.Links.leads_to.Given as goal

-- the ports from this one on have the answer
abbrev pub invariant-loop-port : goal.invariant-loop-port
invariant-loop-port l =
    let c = config_in l.self in
    let test : ℕ → _ = λ q. state.is_depended c l.node q && reach.reaches c l.other q in
    record {
      known : AreKnown c l.other l.known;
      left : list_any test (range_with_len l.port (l.port-end - l.port)) ≡ list_any test (state.ports_of c l.node);
    }
