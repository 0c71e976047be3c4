use Rattle.component_trait.proofs.FoldLaws.{fold_bounds}
use Rattle.component_trait.proofs.laws.logs_are_bounded.Goals as goal

pub returns : goal.returns
returns c = fold_bounds
