use Rattle.change_round_laws.proofs.FoldLaws.{states_are_folds}
use Rattle.change_round_laws.proofs.folding.states_are_folds_of_own_events.Goals as goal

pub returns : goal.returns
returns c = record { one = states_are_folds c.a_moved_state_is_the_last_one.ensures.handed }
