-- Behind `usage` the form is noted.
use Rattle.command_live.proofs.program.note_form.Goals as goal

pub returns-in-Usage : goal.returns-in-Usage
returns-in-Usage g c = rw c.in-Usage.is (rw c.hint.ensures at c.write_note.ensures)
