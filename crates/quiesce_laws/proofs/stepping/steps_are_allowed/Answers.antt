use Rattle.quiesce_laws.proofs.AllowedLemmas.{step_allowed}
use Rattle.quiesce_laws.proofs.stepping.steps_are_allowed.Goals as goal

pub returns : goal.returns
returns c = λ drained es e run h k. step_allowed drained es run h e k
