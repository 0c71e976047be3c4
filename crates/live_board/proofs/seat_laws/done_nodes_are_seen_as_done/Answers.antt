use Rattle.txn_records.specs.Entries.{config_of}
use Rattle.live_board.proofs.RecordLemmas.{lower_in}
use Rattle.live_board.proofs.SeenLines.{seen_done}
use Rattle.live_board.proofs.seat_laws.done_nodes_are_seen_as_done.Goals as goal

pub returns : goal.returns
returns c = record { done = λ r k past last state of_run made folds done. seen_done (config_of r) (lower_in r of_run) k past last state made folds done }
