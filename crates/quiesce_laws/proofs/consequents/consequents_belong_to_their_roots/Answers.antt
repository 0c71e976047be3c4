use Rattle.quiesce_laws.proofs.Rooted.{rooted, counted}
use Rattle.quiesce_laws.proofs.consequents.consequents_belong_to_their_roots.Goals as goal

pub returns-clause-found : goal.returns-clause-found
returns-clause-found c es p k q j run has now = rooted es p k q j run has now

pub returns-clause-counted : goal.returns-clause-counted
returns-clause-counted c es more_ p k q j run has now before = counted es more_ p k q j run has now before
