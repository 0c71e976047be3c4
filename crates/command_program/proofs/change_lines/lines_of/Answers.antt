-- The lines are pushed one after the other.
use Rattle.command_program.proofs.Changes.{lines_fit, lines_say, pushed_lines}
use Rattle.command_program.proofs.change_lines.lines_of.Goals as goal

pub returns-clause-lines : goal.returns-clause-lines
returns-clause-lines c =
    lines_say c.args.change.now c.push_change.new.lines.items
    (pushed_lines c.args.change.now c.new-lines.result.items c.push_file.new.lines.items c.push_start.new.lines.items c.push_other.new.lines.items c.push_change.new.lines.items
    c.new-lines.ensures.items c.in_ok-push_file.ensures.pushed c.in_ok-push_start.ensures c.in_ok-push_other.ensures.pushed c.in_ok-push_change.ensures)

pub returns-clause-stand : goal.returns-clause-stand
returns-clause-stand c =
    lines_fit c.args.change.now c.push_change.new.lines.items
    (pushed_lines c.args.change.now c.new-lines.result.items c.push_file.new.lines.items c.push_start.new.lines.items c.push_other.new.lines.items c.push_change.new.lines.items
    c.new-lines.ensures.items c.in_ok-push_file.ensures.pushed c.in_ok-push_start.ensures c.in_ok-push_other.ensures.pushed c.in_ok-push_change.ensures)
    c.in_ok-push_file.ensures.utf8 c.in_ok-push_other.ensures.utf8
