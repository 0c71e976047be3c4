use Rattle.live_board.proofs.LineFolds.{whole}
use Rattle.txn_records.specs.Entries.{config_of}
use Rattle.live_board.proofs.RecordLemmas.{lower_in}
use Rattle.live_board.proofs.seat_laws.lines_have_folds.Goals as goal

pub returns : goal.returns
returns c = record { folds = λ r seen k past last of_run made so. whole (config_of r) seen (lower_in r of_run) k past last made so }
