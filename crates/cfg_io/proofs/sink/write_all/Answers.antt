use Rattle.std.proofs.Common.{arith}
use Rattle.std.proofs.lemmas.Grind.{common_steps}
use Rattle.cfg_io.proofs.Bytes.{with_bytes-front_more}
use Rattle.cfg_io.proofs.sink.write_all.Goals as goal

pub loop-written-preserved : goal.loop-written-preserved
loop-written-preserved g c = record {
  within = grind (arith, common_steps, c.in-Ok.ensures.within);
  front = cc (c.in-Ok.ensures.takes, c.loop-written.invariant.front, with_bytes-front_more (g.K.Sink.taken c.args.sink.now) c.args.bytes.now c.loop-written.written c.in-Ok.count);
  steady = cc (c.in-Ok.ensures.steady, c.loop-written.invariant.steady);
}
