use Rattle.txn_records.specs.Entries.{config_of}
use Rattle.live_board.proofs.ApartLemmas.{share_none}
use Rattle.live_board.proofs.RecordLemmas.{gone_in}
use Rattle.live_board.proofs.seat_laws.lines_share_no_node.Goals as goal

pub returns : goal.returns
returns c = record {
  apart = λ r k j past other last final n of_run made made_too live live_too at at_too.
      share_none (config_of r) (gone_in r of_run) k j past other last final n made made_too live live_too at at_too;
}
