use Rattle.change_spec.proofs.ConsistentLaws.{of_rounds}
use Rattle.change_spec.proofs.laws.rounds_have_each_line.Goals as goal

pub returns : goal.returns
returns c = record { same = of_rounds }
