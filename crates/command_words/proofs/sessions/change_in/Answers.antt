-- Words that are no change say none.
use Rattle.command_words.proofs.sessions.change_in.Goals as goal

pub returns-in-None-clause-none : goal.returns-in-None-clause-none
returns-in-None-clause-none c = λ asked says. (rw c.in-None.is at c.in_ok-change.ensures) asked.change (says.1, says.2)
