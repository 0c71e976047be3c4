use Rattle.quiesce_laws.proofs.Portions.{part_falls, part_stays}
use Rattle.quiesce_laws.proofs.parts.part_falls_by_steps.Goals as goal

pub returns-clause-falls : goal.returns-clause-falls
returns-clause-falls c set s t e w k step off is = part_falls set s t e w k step off is

pub returns-clause-stays : goal.returns-clause-stays
returns-clause-stays c set s t e w k step off = part_stays set s t e w k step off
