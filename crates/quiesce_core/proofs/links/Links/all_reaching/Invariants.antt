use Rattle.std.proofs.Common.{◌≡◌, ℕ, ◌-◌, ◌<◌, ◌||◌, Bool, not, length}
use Rattle.std.specs.List.{list_all, range_with_len}
use Rattle.config_graph.specs.declared.TheConstants.{MAX_PORTS}
use Rattle.quiesce_core.specs.Links.{config_in}
use Rattle.quiesce_core.specs.Reach.{reaches}
use Rattle.quiesce_core.specs.Searched.{AreKnown}
use Rattle.quiesce_core.proofs.links.Links.all_reaching.Given as goal

-- the ports from this one on have the answer
abbrev pub invariant-loop-port : goal.invariant-loop-port
invariant-loop-port g l =
    let c = config_in l.self in
    record {
      known : AreKnown c l.node l.known;
      left : (test : ℕ → Bool) → ((p : ℕ) (b : Bool) → p < MAX_PORTS → goal.F-post g l.passes p b → b ≡ test p)
          → list_all (λ p. test p || not (reaches c l.node p)) (range_with_len l.port (l.ports - l.port)) ≡ list_all (λ p. test p || not (reaches c l.node p)) (range_with_len 0 (length c.gates));
    }
