-- The text was taken, or the front of it that was taken before the notes failed.
use Rattle.command_live.specs.Notes.{takes_all, takes_front}
use Rattle.command_live.proofs.program.write_note.Goals as goal

pub returns-in-Ok : goal.returns-in-Ok
returns-in-Ok g c = takes_all (rw c.as_bytes.ensures.value at c.in-Ok.ensures.all) c.in-Ok.ensures.steady

pub returns-in-Err : goal.returns-in-Err
returns-in-Err g c = takes_front c.in-Err._stopped.written (rw c.as_bytes.ensures.value at c.in-Err.ensures.short) (rw c.as_bytes.ensures.value at c.in-Err.ensures.prefix)
    c.in-Err.ensures.rose
