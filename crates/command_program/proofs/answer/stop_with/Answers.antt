-- The line refuses for the reason that it tells.
use Rattle.std.proofs.Common.{refl}
use Rattle.command_program.proofs.answer.stop_with.Goals as goal

pub returns-in-Ok : goal.returns-in-Ok
returns-in-Ok c why status text = (why, refl, record { status_is = status; text_is = rw c.in-Ok.is at text })
