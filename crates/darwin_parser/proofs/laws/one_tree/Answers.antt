use Rattle.darwin_parser.proofs.UnitLaws.{one_tree}
use Rattle.darwin_parser.proofs.laws.one_tree.Goals as goal

pub returns : goal.returns
returns c = λ operands statements text tokens a b. one_tree text operands statements tokens a b
