use Rattle.darwin_walk.proofs.ReachesLemmas.{reached_component, reached_statements}
use Rattle.darwin_walk.proofs.laws.what_is_reached.Goals as goal

pub returns-clause-statements : goal.returns-clause-statements
returns-clause-statements c = reached_statements

pub returns-clause-component : goal.returns-clause-component
returns-clause-component c = reached_component
