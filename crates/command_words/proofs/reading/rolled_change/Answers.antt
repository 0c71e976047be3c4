-- Words of which one is no number, or that are no change, are no roll.
use Rattle.command_words.proofs.reading.rolled_change.Goals as goal

pub returns-in-None : goal.returns-in-None
returns-in-None c = λ roll is. (rw c.in-None.is at c.in_ok-change.ensures) roll.change (is.0, is.1.2.2)
