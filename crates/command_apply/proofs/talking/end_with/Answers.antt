-- Where memory was wanted, that is what is written last.
use Rattle.command_apply.proofs.talking.end_with.Goals as goal

pub returns-in-NoMemory : goal.returns-in-NoMemory
returns-in-NoMemory g c seen = rw c.in-NoMemory.is (c.write_no_memory.ensures seen)
