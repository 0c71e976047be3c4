use Rattle.std.proofs.Common.{◌≡◌, ◌++◌}
use Rattle.command_program.proofs.Passing.{IsPassed}
use Rattle.command_program.proofs.taking.take_lines.Given as goal

-- how far the lines were passed, and what is to come
abbrev pub invariant-loop-line : goal.invariant-loop-line
invariant-loop-line g l =
    (goal.iterator-loop-line g).can_next l.line-iterator ×
    (goal.iterator-loop-line g).is_finite l.line-iterator ×
    IsPassed (g.H.Shelf.files l.initial.shelf) (g.H.Shelf.files l.shelf) l.initial.way l.way l.yielded l.line-iterator.rest.items
    (g.H.Shelf.failed l.initial.shelf) (g.H.Shelf.failed l.shelf) ×
    (l.yielded ++ l.line-iterator.rest.items ≡ l.fn.lines.items)
