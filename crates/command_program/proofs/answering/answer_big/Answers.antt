-- The made files are those of so many lanes.
use Rattle.command_program.proofs.answering.answer_big.Goals as goal

pub returns-in-Ok : goal.returns-in-Ok
returns-in-Ok c = rw c.in-Ok.ensures at c.answer_made.ensures
