-- What was written is the whole text, or the front of it that the sink took before it failed.
use Rattle.std.proofs.Common.{refl}
use Rattle.command_spec.specs.Runs.{whole, stopped}
use Rattle.command_program.proofs.writing.write_text.Goals as goal

pub returns-in-Ok : goal.returns-in-Ok
returns-in-Ok g c r = whole c.in-Ok.ensures.all c.in-Ok.ensures.steady refl

pub returns-in-Err : goal.returns-in-Err
returns-in-Err g c r = stopped c.in-Err._stopped.written c.in-Err.ensures.short c.in-Err.ensures.prefix c.in-Err.ensures.rose refl
