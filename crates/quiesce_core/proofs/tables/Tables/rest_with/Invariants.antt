use Rattle.std.proofs.Common.{◌≡◌, ◌+◌, ◌-◌, ◌^◌, ◌≤◌}
use Rattle.std.specs.Prelude.{sum_by}
use Rattle.std.specs.List.{range_with_len}
use Rattle.quiesce_core.specs.State.{exchange}
use Rattle.quiesce_core.specs.Rest.{port_rest, rest}
use Rattle.quiesce_core.specs.Counted.{capped, AreCounted}
use Rattle.quiesce_core.specs.Tables.{state_of}
use Rattle.quiesce_core.proofs.tables.Tables.rest_with.Given as goal

-- the sum so far, and that from this port on, have the answer between them
abbrev pub invariant-loop-port : goal.invariant-loop-port
invariant-loop-port l =
    let s = state_of l.self in
    record {
      known : AreCounted s.config l.known;
      left : capped (l.total + sum_by (λ p. port_rest s p (exchange s p).phase) (range_with_len l.port (l.ports - l.port))) ≡ capped (rest s);
      fits : l.total ≤ 2 ^ 128 - 1;
    }
