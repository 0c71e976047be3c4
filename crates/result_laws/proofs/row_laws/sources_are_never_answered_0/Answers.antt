use Rattle.result_laws.proofs.Having.{not_0}
use Rattle.result_laws.proofs.row_laws.sources_are_never_answered_0.Goals as goal

pub returns : goal.returns
returns c = record {
  never = λ statements report sound rows l.
      not_0 c.a_moved_state_is_the_last_one.ensures.handed c.each_plan_may_commit.ensures c.commits_can_not_fail.ensures.by_the_configuration c.commits_leave_the_new_graph.ensures.reopening c.nothing_is_open_at_the_end.ensures.nothing_open
      statements report sound rows l;
}
