use Rattle.change_parts.proofs.PartLaws.{has_links}
use Rattle.change_parts.proofs.laws.no_link_is_lost.Goals as goal

pub returns : goal.returns
returns c = λ old new moves ps old_graph new_graph parts k p there. has_links old new old_graph new_graph moves ps parts k p there
