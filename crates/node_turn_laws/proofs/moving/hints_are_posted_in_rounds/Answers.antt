use Rattle.node_turn_laws.proofs.PostedLaws.{posted_behind_change, posted_behind_round}
use Rattle.node_turn_laws.proofs.moving.hints_are_posted_in_rounds.Goals as goal

pub returns : goal.returns
returns c = record { round = λ w allowed r. posted_behind_round w allowed r; change = λ w e change h. posted_behind_change w e change h }
