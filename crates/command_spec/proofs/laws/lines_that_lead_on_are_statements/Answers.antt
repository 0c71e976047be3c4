use Rattle.command_spec.proofs.Saying.{say_statements}
use Rattle.command_spec.proofs.laws.lines_that_lead_on_are_statements.Goals as goal

pub returns : goal.returns
returns c = say_statements
