use Rattle.result_laws.proofs.Reported.{amounts_there}
use Rattle.result_laws.proofs.bank_laws.sums_are_kept_at_each_place.Goals as goal

pub returns : goal.returns
returns c = record {
  sum = λ statements report sound banks l.
      amounts_there c.a_moved_state_is_the_last_one.ensures.handed c.each_plan_may_commit.ensures c.commits_can_not_fail.ensures.by_the_configuration c.commits_leave_the_new_graph.ensures.reopening c.nothing_is_open_at_the_end.ensures.nothing_open
      statements report sound banks l;
}
