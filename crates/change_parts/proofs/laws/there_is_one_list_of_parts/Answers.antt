use Rattle.change_parts.proofs.OneLemmas.{one_parts}
use Rattle.change_parts.proofs.laws.there_is_one_list_of_parts.Goals as goal

pub returns : goal.returns
returns c = λ old new moves ps qs old_graph new_graph. one_parts old new old_graph new_graph moves ps qs
