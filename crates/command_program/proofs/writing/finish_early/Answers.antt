-- The line of a refusal is written, or that memory ran out.
use Rattle.command_program.proofs.writing.finish_early.Goals as goal

pub returns-in-Refused : goal.returns-in-Refused
returns-in-Refused g c r = rw c.in-Refused.is (rw c.as_slice.ensures.value at c.write_text.ensures r)

pub returns-in-NoMemory : goal.returns-in-NoMemory
returns-in-NoMemory g c r = rw c.in-NoMemory.is (c.write_no_memory.ensures r)
