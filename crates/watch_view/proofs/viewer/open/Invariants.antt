use Rattle.watch_view.specs.Known.{known_by}
use Rattle.watch_lines.specs.Lists.{BeginsWith}
use Rattle.watch_view.proofs.viewer.open.Given as goal

abbrev pub invariant-loop : goal.invariant-loop
invariant-loop g l = (goal.iterator-loop g).can_next l.iterator' × (goal.iterator-loop g).is_finite l.iterator'
    × BeginsWith (known_by l.closed.place) (known_by l.fn.reader.place)
