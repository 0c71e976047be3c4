use Rattle.quiesce_laws.proofs.OneRootLaws.{one_root, rooted}
use Rattle.quiesce_laws.proofs.roots.transactions_have_one_root.Goals as goal

pub returns : goal.returns
returns c = record { some = rooted; one = λ es p k q j r i run a b. one_root es run p k q j r i a b }
