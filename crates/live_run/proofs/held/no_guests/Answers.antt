use Rattle.std.proofs.Common.{rules, arith}
use Rattle.std.specs.Prelude.{is_ok}
use Rattle.live_board.proofs.KeptLaws.{kept_pushed}
use Rattle.live_run.proofs.held.no_guests.Goals as goal

pub loop-preserved : goal.loop-preserved
loop-preserved g c = record {
  fits = kept_pushed g.J.Named.gates c.loop.guests.items c.push.new.self.items (is_ok c.push.result) c.loop.invariant.fits c.push.ensures.items;
  count = search (rules, arith);
}
