-- The answer is shown.
use Rattle.std.proofs.Common.{refl}
use Rattle.command_spec.specs.Commands.{shown}
use Rattle.command_spec.specs.Courses.{said}
use Rattle.command_program.proofs.answering.show_change.Goals as goal

pub returns-in-Ok : goal.returns-in-Ok
returns-in-Ok c files =
    let answer = c.in-Ok.answer in
    let s = shown answer.status answer.text.items in
    (s, (refl, refl), said s (record { old = c.args.planned.now.start.graph; new = c.args.planned.now.change.graph; said_are = refl; is_text = c.in-Ok.ensures }))
