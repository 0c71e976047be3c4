use Rattle.txn_gate.specs.Seats.{collected_in, node_in, record_of}
use Rattle.txn_records.specs.Entries.{config_of}
use Rattle.live_board.proofs.GrowLemmas.{grew_as}
use Rattle.live_board.proofs.collecting.take_node_in.Goals as goal

pub returns : goal.returns
returns c = record {
  here = c.collect.ensures.took.here;
  change = c.collect.ensures.took.change;
  spare = c.collect.ensures.took.spare;
  grew =
      grew_as (config_of (record_of c.args.seat.now)) (collected_in c.args.seat.now) (collected_in c.collect.new.seat) c.args.logs.now.items c.put_log.new.logs.items (node_in c.args.theirs) c.slot-slot.result c.args.log.items
      (record { made = c.collect.ensures.learned.made; unserving = c.collect.ensures.learned.unserving }) c.collect.ensures.took.nodes c.put_log.ensures c.slot-slot.ensures c.requires.told;
}
