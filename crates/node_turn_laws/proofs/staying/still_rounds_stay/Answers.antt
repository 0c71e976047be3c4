use Rattle.node_turn_laws.proofs.StayingLemmas.{rounds_stay}
use Rattle.node_turn_laws.proofs.staying.still_rounds_stay.Goals as goal

pub returns : goal.returns
returns c = record { stays = λ w allowed r posted still j. rounds_stay w r (c.rounds_move_what_is_open.ensures.idle w allowed r posted still) allowed still j }
