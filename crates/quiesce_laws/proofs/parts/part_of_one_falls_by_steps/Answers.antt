use Rattle.quiesce_core.proofs.LegalLaws.{legal}
use Rattle.quiesce_laws.specs.Belongs.{singleton}
use Rattle.quiesce_laws.proofs.Portions.{part_falls, part_stays, open_one}
use Rattle.quiesce_laws.proofs.parts.part_of_one_falls_by_steps.Goals as goal

pub returns-clause-falls : goal.returns-clause-falls
returns-clause-falls c s t e p j w k step open_ is = part_falls (singleton p j) s t e w k step (open_one s e p j (legal s e step.allowed) open_) is

pub returns-clause-stays : goal.returns-clause-stays
returns-clause-stays c s t e p j w k step open_ = part_stays (singleton p j) s t e w k step (open_one s e p j (legal s e step.allowed) open_)
