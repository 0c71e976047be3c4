use Rattle.merge_laws.proofs.FrontLemmas.{one_front}
use Rattle.merge_laws.proofs.following.a_statement_has_one_front.Goals as goal

pub returns : goal.returns
returns c = one_front
