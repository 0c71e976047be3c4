use Rattle.change_round_laws.proofs.TogetherLaws.{drain_together}
use Rattle.change_round_laws.proofs.waiting.changes_in_a_row_drain_together.Goals as goal

pub returns : goal.returns
returns c = record {
  none_given_up = λ k before ps sound played none_ low waits.
      drain_together c.rest_bounds_all.ensures.left c.rest_falls_by_steps.ensures.falls c.rounds_drain_what_is_left.ensures.drained c.each_plan_may_commit.ensures
      c.commits_can_not_fail.ensures.by_the_configuration c.commits_leave_the_new_graph.ensures.reopening c.commits_can_not_fail.ensures.runs k before ps sound played none_ low waits;
}
