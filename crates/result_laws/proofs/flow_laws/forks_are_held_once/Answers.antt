use Rattle.result_laws.proofs.ForkReports.{forks_end_free, forks_held_once, free_there, lent_there, none_holds}
use Rattle.result_laws.proofs.flow_laws.forks_are_held_once.Goals as goal

pub returns : goal.returns
returns c = record {
  once = λ statements report l tables.
      forks_held_once c.a_moved_state_is_the_last_one.ensures.handed c.nothing_is_open_at_the_end.ensures.nothing_open statements report l tables;
  lent = λ statements report l tables. lent_there c.a_moved_state_is_the_last_one.ensures.handed c.nothing_is_open_at_the_end.ensures.nothing_open statements report l tables;
  free = λ statements report l tables. free_there c.a_moved_state_is_the_last_one.ensures.handed c.nothing_is_open_at_the_end.ensures.nothing_open statements report l tables;
  none_at_the_end = λ statements report l p. none_holds c.a_moved_state_is_the_last_one.ensures.handed c.nothing_is_open_at_the_end.ensures.nothing_open statements report l p;
  free_at_the_end = λ statements report l tables spare. forks_end_free c.a_moved_state_is_the_last_one.ensures.handed c.nothing_is_open_at_the_end.ensures.nothing_open statements report l tables spare;
}
