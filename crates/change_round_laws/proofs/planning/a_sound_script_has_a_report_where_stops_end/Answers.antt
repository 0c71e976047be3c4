use Rattle.change_round_laws.proofs.EndingRoundLaws.{runs_end}
use Rattle.change_round_laws.proofs.ExistenceLaws.{exists_one}
use Rattle.change_round_laws.proofs.PlanFoundLaws.{have_plans}
use Rattle.change_round_laws.proofs.planning.a_sound_script_has_a_report_where_stops_end.Goals as goal

pub returns : goal.returns
returns c = record {
  exists = λ stops_end statements sound.
      exists_one c.each_plan_may_commit.ensures c.commits_can_not_fail.ensures.by_the_configuration c.commits_leave_the_new_graph.ensures.reopening c.commits_can_not_fail.ensures.runs
      (runs_end c.rest_falls_by_steps.ensures.falls c.rest_falls_by_steps.ensures.rises) statements stops_end sound (have_plans statements sound);
}
