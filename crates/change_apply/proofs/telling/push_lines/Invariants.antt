use Rattle.std.proofs.Common.{◌≡◌, ◌++◌, filter_map, take}
use Rattle.change_spec.specs.Members.{line_of}
use Rattle.change_apply.proofs.telling.push_lines.Given as goal

abbrev pub invariant-loop-event : goal.invariant-loop-event
invariant-loop-event l = l.lines.items ≡ l.initial.lines.items ++ filter_map line_of (take l.event-index l.events)
