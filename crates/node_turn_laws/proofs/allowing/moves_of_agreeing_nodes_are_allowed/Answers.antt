use Rattle.quiesce_core.proofs.LegalLaws.{allowed}
use Rattle.node_turn_laws.proofs.MoveLaws.{moves_go_on}
use Rattle.node_turn_laws.proofs.allowing.moves_of_agreeing_nodes_are_allowed.Goals as goal

pub returns : goal.returns
returns c = record {
  allowed = λ s n m t es box begins e placed is. allowed s e (moves_go_on s n m t es placed box begins e is).allowed;
  goes_on = λ s n m t es box begins e placed is. moves_go_on s n m t es placed box begins e is;
}
