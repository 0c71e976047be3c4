use Rattle.std.proofs.Common.{◌≡◌, ◌++◌, filter_map, take}
use Rattle.report_follows.specs.Testing as testing
use Rattle.report_follows.proofs.testing.push_all_told.Given as goal

abbrev pub invariant-loop-line : goal.invariant-loop-line
invariant-loop-line l = l.ports.items ≡ l.initial.ports.items ++ filter_map testing.told_port (take l.line-index l.lines)
