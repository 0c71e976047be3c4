use Rattle.merge_laws.proofs.GuideLemmas.{guided}
use Rattle.merge_laws.proofs.merging.merges_meet_the_guards.Goals as goal

pub returns : goal.returns
returns c = λ history m merge telling apart. guided merge telling apart
