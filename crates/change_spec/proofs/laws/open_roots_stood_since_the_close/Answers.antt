use Rattle.change_spec.proofs.StoodLaws.{stands_open, stood_since}
use Rattle.change_spec.proofs.laws.open_roots_stood_since_the_close.Goals as goal

pub returns : goal.returns
returns c = record { since = λ m before p k kinds run s. stood_since m before p k run kinds s; enough = stands_open }
