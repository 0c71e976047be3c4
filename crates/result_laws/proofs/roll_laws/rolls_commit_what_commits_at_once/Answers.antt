use Rattle.result_laws.proofs.OnceRolls.{no_part_given_up, wait_together}
use Rattle.result_laws.proofs.roll_laws.rolls_commit_what_commits_at_once.Goals as goal

pub returns : goal.returns
returns c = record {
  all = λ name args old k new_name new_args within new moves ps given_up new_graph parts sound once roll.
      no_part_given_up c.each_plan_may_commit.ensures c.commits_can_not_fail.ensures.by_the_configuration c.commits_leave_the_new_graph.ensures.reopening c.commits_can_not_fail.ensures.runs
      name args old k new_name new_args within new moves ps new_graph parts sound given_up once roll;
  together = λ name args old k new_name new_args within new moves ps given_up new_graph parts sound once roll.
      wait_together c.each_plan_may_commit.ensures c.commits_can_not_fail.ensures.by_the_configuration c.commits_leave_the_new_graph.ensures.reopening c.commits_can_not_fail.ensures.runs
      name args old k new_name new_args within new moves ps new_graph parts sound given_up once roll;
}
