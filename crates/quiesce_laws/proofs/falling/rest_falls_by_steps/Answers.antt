use Rattle.std.proofs.Common.{arith}
use Rattle.quiesce_laws.proofs.Steps.{rest_falls, rest_stays, rest_rises}
use Rattle.quiesce_laws.proofs.falling.rest_falls_by_steps.Goals as goal

pub returns-clause-falls : goal.returns-clause-falls
returns-clause-falls c s t e w k step h = omega (arith, rest_falls s t e w k step h)

pub returns-clause-stays : goal.returns-clause-stays
returns-clause-stays c s t e w k step no_begin = rest_stays s t e w k step no_begin

pub returns-clause-rises : goal.returns-clause-rises
returns-clause-rises c s t p j v to w k step leads = rest_rises s t p j v to w k step leads
