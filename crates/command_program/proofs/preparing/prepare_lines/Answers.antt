-- The lines lead to what is asked for, or to what refuses it.
use Rattle.std.proofs.Common.{subst}
use Rattle.std.proofs.lemmas.Result.{err_from_is_err_and}
use Rattle.command_spec.specs.Lines.{begun, of_lines}
use Rattle.command_spec.specs.Scripts.{lines_of_script}
use Rattle.command_program.specs.Leading.{Leads, Took}
use Rattle.command_program.specs.Preparing.{IsPrepared}
use Rattle.command_program.proofs.ComingLaws.{still_stops}
use Rattle.command_program.proofs.Preparations.{at_begin, can_run, lines_prepared}
use Rattle.command_program.proofs.preparing.prepare_lines.Goals as goal

pub take_lines-requires : goal.take_lines-requires
take_lines-requires g c =
    let way = c.new-way.ensures in
    rw (way.used, way.start) c.requires

pub returns-clause-prepares : goal.returns-clause-prepares
returns-clause-prepares g c =
    let way = c.new-way.ensures in
    let took = c.take_lines.ensures.took begun (at_begin c.new-way.result way.file way.used way.start way.steps way.made) in
    lines_prepared _ _ (lines_of_script c.args.lines.items) _ _ c.take_lines.new.way c.asked_by.result c.asked_by.ensures
    (subst (Took _ begun (lines_of_script c.args.lines.items) _ _ c.take_lines.new.way) c.in_ok-take_lines.was took)

pub returns-clause-can_run : goal.returns-clause-can_run
returns-clause-can_run g c =
    let way = c.new-way.ensures in
    let took = c.take_lines.ensures.took begun (at_begin c.new-way.result way.file way.used way.start way.steps way.made) in
    can_run _ _ (lines_of_script c.args.lines.items) _ _ c.take_lines.new.way c.asked_by.result c.asked_by.ensures
    (subst (Took _ begun (lines_of_script c.args.lines.items) _ _ c.take_lines.new.way) c.in_ok-take_lines.was took)

pub returns-in_err-take_lines-clause-prepares : goal.returns-in_err-take_lines-clause-prepares
returns-in_err-take_lines-clause-prepares g c =
    let q = err_from_is_err_and c.from_residual.result c.from_residual.ensures.1 in
    let way = c.new-way.ensures in
    let took = c.take_lines.ensures.took begun (at_begin c.new-way.result way.file way.used way.start way.steps way.made) in
    rw (q.1, q.2)
    (still_stops (Leads c.take_lines.new.way) IsPrepared _ (of_lines begun (lines_of_script c.args.lines.items)) _ _ c.in_err-take_lines.field-0.0
    (subst (Took _ begun (lines_of_script c.args.lines.items) _ _ c.take_lines.new.way) c.in_err-take_lines.was took))
