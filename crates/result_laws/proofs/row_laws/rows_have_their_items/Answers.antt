use Rattle.result_laws.proofs.Having.{end_logs, items}
use Rattle.result_laws.proofs.row_laws.rows_have_their_items.Goals as goal

pub returns : goal.returns
returns c = record {
  items = λ statements report sound rows l.
      items c.a_moved_state_is_the_last_one.ensures.handed c.each_plan_may_commit.ensures c.commits_can_not_fail.ensures.by_the_configuration c.commits_leave_the_new_graph.ensures.reopening c.nothing_is_open_at_the_end.ensures.nothing_open
      statements report sound rows l;
  ends = λ statements report sound rows l.
      end_logs c.a_moved_state_is_the_last_one.ensures.handed c.each_plan_may_commit.ensures c.commits_can_not_fail.ensures.by_the_configuration c.commits_leave_the_new_graph.ensures.reopening c.nothing_is_open_at_the_end.ensures.nothing_open
      statements report sound rows l;
}
