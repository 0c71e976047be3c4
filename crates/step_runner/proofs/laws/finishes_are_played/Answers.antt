use Rattle.step_runner.proofs.FinishLaws.{finish_played}
use Rattle.step_runner.proofs.laws.finishes_are_played.Goals as goal

pub returns : goal.returns
returns c = record { finish = λ before t n rounds d. finish_played c.worlds_at_rest_stay.ensures.stays c.states_are_folds_of_own_events.ensures.one before t n rounds d }
