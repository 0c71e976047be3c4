use Rattle.node_turn_laws.proofs.RestLaws.{round_stays}
use Rattle.node_turn_laws.proofs.resting.worlds_at_rest_stay.Goals as goal

pub returns : goal.returns
returns c = record { stays = λ w allowed r at_rest. round_stays w r at_rest allowed }
