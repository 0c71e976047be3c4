use Rattle.std.proofs.Common.{◌∙◌, ◌&&◌, ap, arith, length}
use Rattle.quiesce_core.specs.State.{Configuration}
use Rattle.change_board.specs.Scans.{is_idle_if_live}
use Rattle.txn_gate.specs.Seats.{record_of}
use Rattle.txn_records.specs.Entries.{config_of}
use Rattle.live_board.proofs.LookLaws.{saw_port}
use Rattle.live_board.proofs.QuietLaws.{config_looked}
use Rattle.live_board.proofs.looking.look_at_ports.Goals as goal

pub look_at-seen-requires-clause-made : goal.look_at-seen-requires-clause-made
look_at-seen-requires-clause-made c =
    let i = c.loop-port.invariant in
    let test = c.loop-port-test.true in
    let same = ap (λ (d : Configuration). length d.gates) (config_looked (record_of c.args.seat.now) (record_of c.loop-port.seat) i.seen.found i.seen.adds) in
    omega (arith, test, same, c.requires.made)

pub loop-port-preserved : goal.loop-port-preserved
loop-port-preserved c =
    let i = c.loop-port.invariant in
    let e = c.look_at-seen.ensures in
    let k = c.loop-port.port in
    let word = e.seen.0 in
    let config = config_looked (record_of c.args.seat.now) (record_of c.loop-port.seat) i.seen.found i.seen.adds in
    record {
      here = e.seat.here ∙ i.here;
      known = e.seat.known;
      nodes = e.seat.nodes ∙ i.nodes;
      spare = e.seat.spare ∙ i.spare;
      few = e.few;
      seen = saw_port (config_of (record_of c.args.seat.now)) (record_of c.args.seat.now) (record_of c.loop-port.seat) (record_of c.look_at-seen.new.seat) k c.loop-port.seen.idle c.look_at-seen.result.idle
          c.loop-port.seen.ended c.look_at-seen.result.ended word i.seen e.seen.1
          (e.seen.2 ∙ ap (λ (d : Configuration). c.loop-port.seen.idle && is_idle_if_live d (record { port = k; word = word })) config) e.seen.3;
    }
