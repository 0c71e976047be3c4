use Rattle.txn_records.specs.Entries.{config_of}
use Rattle.live_board.proofs.FirstSights.{first_sights}
use Rattle.live_board.proofs.RecordLemmas.{gone_in, lower_in}
use Rattle.live_board.proofs.seat_laws.first_sights_are_of_own_lines.Goals as goal

pub returns : goal.returns
returns c = record { first = λ r lines of_run are. first_sights (config_of r) (lower_in r of_run) (gone_in r of_run) lines are.each are.once }
