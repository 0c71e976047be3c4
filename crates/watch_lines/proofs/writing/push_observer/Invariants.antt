use Rattle.std.proofs.Common.{◌≡◌, ◌++◌, drop}
use Rattle.watch_lines.specs.WatchText.{observer_text}
use Rattle.watch_lines.proofs.writing.push_observer.Given as goal

abbrev pub invariant-loop-sighting : goal.invariant-loop-sighting
invariant-loop-sighting l =
    l.text.items ++ observer_text l.observer (drop l.sighting-index l.lines) ≡ l.initial.text.items ++ observer_text l.observer l.lines
