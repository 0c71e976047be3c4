use Rattle.change_spec.proofs.SerialLaws.{one_serial, one_world}
use Rattle.change_plan.proofs.PlanLaws.{one_plan}
use Rattle.change_spec.proofs.laws.there_is_one_report_of_rounds.Goals as goal

pub returns : goal.returns
returns c = record { report = one_serial; world = one_world; plan = one_plan }
