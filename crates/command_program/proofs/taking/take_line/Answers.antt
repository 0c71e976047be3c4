-- Each line is taken by its kind.
use Rattle.std.proofs.Common.{refl}
use Rattle.report_types.specs.declared.script.Body.TheVariants as bodies
use Rattle.command_spec.specs.Scripts.{lines_of_body}
use Rattle.command_program.proofs.Joining.{none_took, unfetched}
use Rattle.command_program.proofs.Lines.{stop_marks}
use Rattle.command_program.proofs.taking.take_line.Goals as goal
use Rattle.base.proofs.OptionLaws.{None-from_is_some}

pub returns-in-File-clause-took : goal.returns-in-File-clause-took
returns-in-File-clause-took g c = λ p at. rw c.in-File.is (c.use_file.ensures.took p at)

pub returns-in-File-clause-marks : goal.returns-in-File-clause-marks
returns-in-File-clause-marks g c = rw c.in-File.is c.use_file.ensures.marks

pub start-requires : goal.start-requires
start-requires g c = let fits = rw c.in-Start.is at c.requires in record { used = fits.0; unbegun = None-from_is_some _ fits.1 }

pub returns-in-Start-clause-took : goal.returns-in-Start-clause-took
returns-in-Start-clause-took g c = λ p at. rw c.in-Start.is (unfetched (g.H.Shelf.files c.args.shelf.now) p (lines_of_body (bodies.Start c.in-Start.name c.in-Start.args)) _ _ c.start.result (c.start.ensures.lead (g.H.Shelf.files c.args.shelf.now) p at))

pub returns-in-Start-clause-marks : goal.returns-in-Start-clause-marks
returns-in-Start-clause-marks g c = rw c.in-Start.is c.start.ensures.marks

pub change-requires : goal.change-requires
change-requires g c = let fits = rw c.in-Change.is at c.requires in record { used = fits.0; begun = fits.1 }

pub returns-in-Change-clause-took : goal.returns-in-Change-clause-took
returns-in-Change-clause-took g c = λ p at. rw c.in-Change.is (unfetched (g.H.Shelf.files c.args.shelf.now) p (lines_of_body (bodies.Change c.in-Change.name c.in-Change.args c.in-Change.within c.in-Change.moves)) _ _ c.change.result (c.change.ensures.lead (g.H.Shelf.files c.args.shelf.now) p at))

pub returns-in-Change-clause-marks : goal.returns-in-Change-clause-marks
returns-in-Change-clause-marks g c = rw c.in-Change.is c.change.ensures.marks

pub returns-in-Run-clause-took : goal.returns-in-Run-clause-took
returns-in-Run-clause-took g c = λ p at. rw c.in-Run.is (unfetched (g.H.Shelf.files c.args.shelf.now) p (lines_of_body (bodies.Run c.in-Run.k)) _ _ c.do_step.result (c.do_step.ensures.lead (g.H.Shelf.files c.args.shelf.now) p at))

pub returns-in-Run-clause-marks : goal.returns-in-Run-clause-marks
returns-in-Run-clause-marks g c = rw c.in-Run.is (c.do_step.ensures.marks (bodies.Run c.in-Run.k) refl refl)

pub returns-in-Finish-clause-took : goal.returns-in-Finish-clause-took
returns-in-Finish-clause-took g c = λ p at. rw c.in-Finish.is (unfetched (g.H.Shelf.files c.args.shelf.now) p (lines_of_body (bodies.Finish c.in-Finish.n)) _ _ c.do_step-in-Finish.result (c.do_step-in-Finish.ensures.lead (g.H.Shelf.files c.args.shelf.now) p at))

pub returns-in-Finish-clause-marks : goal.returns-in-Finish-clause-marks
returns-in-Finish-clause-marks g c = rw c.in-Finish.is (c.do_step-in-Finish.ensures.marks (bodies.Finish c.in-Finish.n) refl refl)

pub returns-in-Show-clause-took : goal.returns-in-Show-clause-took
returns-in-Show-clause-took g c = λ p at. rw c.in-Show.is (unfetched (g.H.Shelf.files c.args.shelf.now) p (lines_of_body (bodies.Show)) _ _ c.do_step-in-Show.result (c.do_step-in-Show.ensures.lead (g.H.Shelf.files c.args.shelf.now) p at))

pub returns-in-Show-clause-marks : goal.returns-in-Show-clause-marks
returns-in-Show-clause-marks g c = rw c.in-Show.is (c.do_step-in-Show.ensures.marks bodies.Show refl refl)

pub returns-in-Stop-clause-took : goal.returns-in-Stop-clause-took
returns-in-Stop-clause-took g c = λ p at. rw c.in-Stop.is (none_took _ _ p _ _ at)

pub returns-in-Stop-clause-marks : goal.returns-in-Stop-clause-marks
returns-in-Stop-clause-marks g c = rw c.in-Stop.is (stop_marks c.args.way.now)
