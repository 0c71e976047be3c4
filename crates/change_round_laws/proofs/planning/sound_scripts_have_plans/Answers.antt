use Rattle.change_round_laws.proofs.PlanFoundLaws.{have_plans, plans_are_found}
use Rattle.change_round_laws.proofs.planning.sound_scripts_have_plans.Goals as goal

pub returns : goal.returns
returns c = record {
  found = λ old new moves sound may. plans_are_found old new moves sound.is_graph sound.sound.no_cycle may;
  plans = have_plans;
}
