-- Words behind the file that are no component say none of it.
use Rattle.command_words.proofs.calls.other_of.Goals as goal

pub returns-in-None : goal.returns-in-None
returns-in-None c = λ to is. (rw c.in-None.is at c.in_ok-target.ensures.none) to.target is.2
