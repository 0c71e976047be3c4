use Rattle.txn_records.specs.Entries.{config_of}
use Rattle.live_board.proofs.ApartLemmas.{ends_live}
use Rattle.live_board.proofs.RecordLemmas.{gone_in}
use Rattle.live_board.proofs.seat_laws.live_nodes_end_their_lines.Goals as goal

pub returns : goal.returns
returns c = record { ends = λ r k past last n of_run made at live. ends_live (config_of r) (gone_in r of_run) k past last n made at live }
