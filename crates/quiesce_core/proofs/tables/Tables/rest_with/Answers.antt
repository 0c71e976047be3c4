use Rattle.std.proofs.Common.{arith}
use Rattle.quiesce_core.specs.State.{exchange}
use Rattle.quiesce_core.specs.Rest.{port_rest, rest}
use Rattle.quiesce_core.specs.Counted.{capped}
use Rattle.quiesce_core.specs.Tables.{state_of}
use Rattle.quiesce_core.proofs.RestLaws.{sum_after, sum_done}
use Rattle.quiesce_core.proofs.tables.Tables.rest_with.Goals as goal

pub loop-port-preserved : goal.loop-port-preserved
loop-port-preserved c =
    let s = state_of c.args.self.now in
    record {
      known = c.port_rest.ensures.known;
      left = sum_after (λ p. port_rest s p (exchange s p).phase) c.loop-port.total c.port_rest.result c.saturating_add-total.result c.loop-port.port c.len-ports.result (capped (rest s))
          (omega arith) c.port_rest.ensures.value c.saturating_add-total.ensures c.loop-port.invariant.left;
      fits = omega (arith, c.saturating_add-total.ensures);
    }

pub returns : goal.returns
returns c =
    let s = state_of c.args.self.now in
    sum_done (λ p. port_rest s p (exchange s p).phase) c.loop-port.total c.loop-port.port c.len-ports.result (capped (rest s)) (omega arith) c.loop-port.invariant.fits c.loop-port.invariant.left
