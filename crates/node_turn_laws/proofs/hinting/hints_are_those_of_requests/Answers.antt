use Rattle.node_turn_laws.proofs.HintLaws.{hinted_where_reached}
use Rattle.node_turn_laws.proofs.hinting.hints_are_those_of_requests.Goals as goal

pub returns : goal.returns
returns c = record { one = λ w r. (hinted_where_reached w r).hints }
