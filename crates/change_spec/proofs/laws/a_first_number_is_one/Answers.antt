use Rattle.change_spec.proofs.FirstLemmas.{one_first}
use Rattle.change_spec.proofs.laws.a_first_number_is_one.Goals as goal

pub returns : goal.returns
returns c = record { one = one_first }
