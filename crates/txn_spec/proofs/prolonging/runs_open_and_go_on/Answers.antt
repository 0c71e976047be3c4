use Rattle.txn_spec.proofs.GrowthLaws.{onwards}
use Rattle.txn_spec.proofs.SeatStepLaws.{opens}
use Rattle.txn_spec.proofs.prolonging.runs_open_and_go_on.Goals as goal

pub returns : goal.returns
returns c = record { opens = opens; goes_on = onwards }
