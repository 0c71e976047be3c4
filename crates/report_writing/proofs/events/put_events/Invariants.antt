use Rattle.std.proofs.Common.{◌≡◌, ◌≤◌, ◌*◌, drop, length}
use Rattle.std.specs.Prelude.{flat_map}
use Rattle.report_writing.specs.Reports.{event_text}
use Rattle.report_writing.proofs.events.put_events.Given as goal

abbrev pub invariant-loop-at : goal.invariant-loop-at
invariant-loop-at l = record {
  below : l.at ≤ length l.events;
  room : l.at * 72 ≤ l.start;
  within : l.start ≤ length l.piece;
  kept : length l.piece ≡ length l.fn.piece;
  lines : drop l.start l.piece ≡ flat_map event_text (drop l.at l.events);
}

abbrev pub decreases-loop-at : goal.decreases-loop-at
decreases-loop-at l = l.at
