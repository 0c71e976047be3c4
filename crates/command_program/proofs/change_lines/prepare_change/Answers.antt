-- The lines lead to one change, or are refused.
use Rattle.command_program.proofs.Changes.{can_make, comes_planned, has_one}
use Rattle.command_program.proofs.change_lines.prepare_change.Goals as goal

pub planned_by-requires : goal.planned_by-requires
planned_by-requires g c =
    has_one c.args.change.now c.in_ok-asked.asked _ _ _ (rw c.in_ok-lines.ensures.lines at c.in_ok-asked.ensures.prepares)

pub returns-clause-comes : goal.returns-clause-comes
returns-clause-comes g c =
    comes_planned c.args.change.now c.in_ok-asked.asked _ _ _ (rw c.in_ok-lines.ensures.lines at c.in_ok-asked.ensures.prepares) c.planned_by.result c.planned_by.ensures

pub returns-clause-can : goal.returns-clause-can
returns-clause-can g c =
    can_make c.args.change.now c.in_ok-asked.asked _ _ _ (rw c.in_ok-lines.ensures.lines at c.in_ok-asked.ensures.prepares) c.planned_by.result c.planned_by.ensures
    c.in_ok-asked.ensures.can_run
