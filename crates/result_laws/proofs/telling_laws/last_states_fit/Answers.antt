use Rattle.result_laws.proofs.Fitting.{states_fit}
use Rattle.result_laws.proofs.telling_laws.last_states_fit.Goals as goal

pub returns : goal.returns
returns c = record {
  states = λ statements report l. states_fit c.a_moved_state_is_the_last_one.ensures.handed statements report l;
  all = λ statements report l counts. record { counts = counts; states = states_fit c.a_moved_state_is_the_last_one.ensures.handed statements report l };
}
