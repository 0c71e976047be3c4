-- A start leads on, or is refused.
use Rattle.command_spec.specs.Lines.{starts}
use Rattle.command_program.proofs.Lines.{call_refused, start_marks, started}
use Rattle.command_program.proofs.taking.start.Goals as goal

pub returns-in-Ok-clause-lead : goal.returns-in-Ok-clause-lead
returns-in-Ok-clause-lead c = λ files p at.
    rw c.begin.ensures
    (started c.args.way.now p c.in-Ok.start c.args.name c.args.args c.requires.unbegun c.in-Ok.ensures.sound c.in-Ok.ensures.room (c.in-Ok.ensures.leads p at) at files)

pub returns-in-Ok-clause-marks : goal.returns-in-Ok-clause-marks
returns-in-Ok-clause-marks c = rw c.begin.ensures (start_marks c.args.way.now c.in-Ok.start c.args.name c.args.args)

pub returns-in-Err-clause-lead : goal.returns-in-Err-clause-lead
returns-in-Err-clause-lead c = λ files p at.
    call_refused (Unit {0}) c.args.way.now p starts c.args.name c.args.args c.in-Err.fault c.refuse.result at (c.in-Err.ensures.refused p at) c.refuse.ensures files
