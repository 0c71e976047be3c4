use Rattle.node_turn_laws.proofs.TurnLaws.{turns_do}
use Rattle.node_turn_laws.proofs.rounds.a_turn_is_one_event_at_most.Goals as goal

pub returns : goal.returns
returns c = record { turn = turns_do }
