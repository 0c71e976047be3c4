use Rattle.node_turn_laws.proofs.TurnLaws.{still_rounds_stand}
use Rattle.node_turn_laws.proofs.rounds.a_round_without_a_move_changes_nothing.Goals as goal

pub returns : goal.returns
returns c = record { stands = still_rounds_stand }
