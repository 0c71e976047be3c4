use Rattle.node_turn_laws.proofs.MovingLaws.{still_is_idle}
use Rattle.node_turn_laws.proofs.moving.rounds_move_what_is_open.Goals as goal

pub returns : goal.returns
returns c = record { idle = λ w allowed r posted still. still_is_idle c.some_event_is_possible.ensures.by_state c.who_wants_asks_nothing.ensures w allowed r posted still }
