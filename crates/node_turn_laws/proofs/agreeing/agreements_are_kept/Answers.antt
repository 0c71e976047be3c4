use Rattle.node_turn_laws.proofs.AgreementLaws.{agrees_next, small_next}
use Rattle.node_turn_laws.proofs.agreeing.agreements_are_kept.Goals as goal

pub returns : goal.returns
returns c = record { agrees = agrees_next; small = small_next }
