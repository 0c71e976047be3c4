use Rattle.std.proofs.Common.{◌≡◌, ◌++◌, drop}
use Rattle.watch_lines.specs.Counts.{lines_from}
use Rattle.watch_lines.proofs.counts.Counts.lines_up_to.Given as goal

abbrev pub invariant-loop-sighting : goal.invariant-loop-sighting
invariant-loop-sighting l =
    l.lines.items ++ lines_from l.self l.last l.next (drop l.sighting-index l.seen) ≡ lines_from l.self l.last 0 l.seen
