use Rattle.node_turn_laws.proofs.ReachedLaws.{holds_where_reached, turn_goes_on}
use Rattle.node_turn_laws.proofs.reaching.turns_are_allowed.Goals as goal

pub returns : goal.returns
returns c = record {
  allowed = λ w n begins e r live is. (turn_goes_on w n begins e r live is).allowed;
  own = λ w n begins e r live is. let g = turn_goes_on w n begins e r live is in (g.of_node, g.own);
  folds = λ w n begins e r live is. (turn_goes_on w n begins e r live is).folds;
  run = λ w r. (holds_where_reached w r).1.run;
  machine = λ w r. (holds_where_reached w r).0;
}
