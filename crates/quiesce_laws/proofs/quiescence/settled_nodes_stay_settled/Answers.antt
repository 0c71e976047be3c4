use Rattle.quiesce_laws.proofs.QuiescenceLaws.{stays_settled, stays_settled_unmade}
use Rattle.quiesce_laws.proofs.quiescence.settled_nodes_stay_settled.Goals as goal

pub returns : goal.returns
returns c = record {
  though_nodes_are_made = λ es more_ n h run closed_. stays_settled es more_ n h run closed_;
  where_none_is_made = λ es more_ n h goes_on. stays_settled_unmade es more_ n h goes_on;
}
