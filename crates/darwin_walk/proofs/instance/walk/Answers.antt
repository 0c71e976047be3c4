use Rattle.base.proofs.AnswerLaws.{Refuses-named}
use Rattle.darwin_walk.proofs.instance.walk.Goals as goal

pub returns-clause-fault : goal.returns-clause-fault
returns-clause-fault c = λ f is. Refuses-named _ _ is c.walk_with.ensures (λ memory. cc)
