use Rattle.std.proofs.Common.{◌≡◌, ◌+◌, ◌≤◌, length}
use Rattle.change_script.specs.Lines.{statements_from}
use Rattle.change_script.specs.Reading.{behind, read_events}
use Rattle.change_script.proofs.event_files.events_of.Given as goal

-- The events found, before those of what is left, are those of the text.
abbrev pub invariant-events : goal.invariant-events
invariant-events l = record {
  read : behind l.events.items (read_events (statements_from l.number l.rest)) ≡ read_events (statements_from l.fn.number l.text);
  few : length l.events.items + length l.rest ≤ length l.text;
  within : l.number + length l.rest ≤ l.fn.number + length l.text;
}

abbrev pub decreases-events : goal.decreases-events
decreases-events l = length l.rest
