use Rattle.quiesce_laws.proofs.Belonging.{belongs_is_found}
use Rattle.quiesce_laws.proofs.parts.belongings_are_found.Goals as goal

pub returns : goal.returns
returns c set s w k p = belongs_is_found set s w k p
