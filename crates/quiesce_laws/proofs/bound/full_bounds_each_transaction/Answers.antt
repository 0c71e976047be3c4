use Rattle.quiesce_laws.proofs.Bounding.{bound_begun, bound_called}
use Rattle.quiesce_laws.proofs.bound.full_bounds_each_transaction.Goals as goal

pub returns : goal.returns
returns c = record { begun = bound_begun; called = bound_called }
