use Rattle.std.proofs.Common.{◌≡◌, ◌++◌, drop}
use Rattle.std.specs.Prelude.{flat_map}
use Rattle.std.specs.List.{enumerate_from}
use Rattle.watch_lines.specs.WatchText.{observer_text, watch_text}
use Rattle.watch_lines.proofs.writing.push_watch_text.Given as goal

abbrev pub invariant-loop-observer : goal.invariant-loop-observer
invariant-loop-observer l =
    l.text.items ++ flat_map (λ o. observer_text o.0 o.1) (enumerate_from l.observer (drop l.observer l.observers)) ≡ l.initial.text.items ++ watch_text l.observers
