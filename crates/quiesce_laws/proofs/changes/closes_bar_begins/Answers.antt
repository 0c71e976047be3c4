use Rattle.quiesce_laws.proofs.BarringLemmas as laws
use Rattle.quiesce_laws.proofs.changes.closes_bar_begins.Goals as goal

pub returns : goal.returns
returns c = record { barred = laws.closes_bar_begins; free = λ s p k v allowed. allowed }
