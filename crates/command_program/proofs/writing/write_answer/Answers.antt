-- An answer is written, or why there is none.
use Rattle.command_program.proofs.writing.write_answer.Goals as goal

pub returns-in-Ok : goal.returns-in-Ok
returns-in-Ok g c r = rw c.in-Ok.is (rw c.as_slice.ensures.value at c.write_text.ensures r)

pub returns-in-Err : goal.returns-in-Err
returns-in-Err g c r = rw c.in-Err.is (c.finish_early.ensures r)
